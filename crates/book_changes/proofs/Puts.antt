-- Rows that are written one after another: what becomes of what is available, of accounts and of what stays paid.
use Rattle.std.proofs.Common.{◌≡◌, ℕ, ◌+◌, true, false, cond, List, [], ◌∷◌, Some, None, Result, Ok, Err, Less, Equal, Greater, is_eq, is_some, refl, sym, ap, subst, ◌∙◌, arith}
use Rattle.std.proofs.lemmas.List.Sums.{sum_by-cons}
use Rattle.std.proofs.lemmas.Option.{none-some}
use Rattle.std.specs.FinMap as map
use Rattle.std.specs.List.{sum_by, AllByRecursion}
use Rattle.std.specs.Ordering.{eq_by_cmp}
use Rattle.issuer_words.specs.Words.{AccountId, Pan, RowKey, RowVal, Rows, is_from_account, kept_in, key_cmp, overlay, stay_if, stays}
use Rattle.issuer_laws.proofs.Sums.{part, sum-insert}
use Rattle.issuer_rows.proofs.KeyLaws.{key_cmp_total, key_cmp_antisymmetric}
use Rattle.issuer_rows.specs.declared.row_key.RowKey.TheVariants as key
use Rattle.issuer_rows.specs.declared.row_val.RowVal.TheVariants as val
use Rattle.serde_json.specs.Data.{Data, Items, no_items, item}
use Rattle.book_laws.specs.Cards.{old_card_of, own_account, row_of_old_card, account_of_old_card, migrated_card}
use Rattle.book_laws.specs.Lists.{entry_of, has_old_cards, rows_at, with_row, with_rows, add_entry, add_entries}
use Rattle.book_laws.specs.Steps.{◌>>=◌}
use Rattle.book_laws.specs.declared.book_version.BookVersion.{BookVersion}
use Rattle.book_laws.specs.declared.old_card.OldCard.{OldCard}
use Rattle.book_laws.specs.declared.row_list.RowList.{RowList}
use Rattle.book_laws.specs.declared.row_list.RowList.TheVariants.{Cards}
use Rattle.book_laws.specs.declared.text_fault.TextFault.{TextFault}
use Rattle.book_laws.specs.declared.text_fault.TextFault.TheVariants.{Shape}
use Rattle.book_laws.specs.Parts.{list_part}
use Rattle.book_changes.specs.Migration.{with_read, read_all, available_of, all_available}
use Rattle.issuer_laws.proofs.Keys.{get-put}

abbrev pub Row : Type 0
Row = RowKey × RowVal

-- ---- readings

-- a reading that comes to its end came through its first step
pub bound : {A B : Type 0} (r : Result A TextFault) (f : A → Result B TextFault) (y : B) → (r >>= f) ≡ Ok y → (x : A) × (r ≡ Ok x) × (f x ≡ Ok y)
bound (Ok x) f y h = (x, refl, h)
bound (Err e) f y h = absurd cc

abbrev pub good : {A : Type 0} → A → Result A TextFault
good x = Ok x

pub same_ok : {A : Type 0} (x y : A) → good x ≡ good y → x ≡ y
same_ok x y h = cc

-- ---- a row written

get_other : (rows : Rows) (k : RowKey) (v : RowVal) (q : RowKey) → eq_by_cmp key_cmp q k ≡ false → map.get (map.insert rows k v) q ≡ map.get rows q
get_other rows k v q other = map.get-insert key_cmp_total rows k v q ∙ ap (λ b. cond b (Some v) (map.get rows q)) other

added_to : (f : Row → ℕ) (rows : Rows) (k : RowKey) (v : RowVal) → map.get rows k ≡ None → sum_by f (map.entries (map.insert rows k v)) ≡ f (k, v) + sum_by f (map.entries rows)
added_to f rows k v none =
    let all = sum-insert f rows k v in
    let nothing : part f k (map.get rows k) ≡ 0 = ap (part f k) none in
    omega (arith, all, nothing)

put_row : (list : RowList) (rows more : Rows) (row : Row) → with_row list rows row ≡ Ok more → (map.get rows row.0 ≡ None) × (map.insert rows row.0 row.1 ≡ more)
put_row list rows more row h =
    elim (map.get rows row.0) as (λ o. cond (is_some o) (Err (Shape (list_part list))) (Ok (map.insert rows row.0 row.1)) ≡ Ok more → (o ≡ None) × (map.insert rows row.0 row.1 ≡ more)) [
      | Some v ↦ λ e. absurd cc
      | None ↦ λ e. (refl, same_ok _ _ e)
    ] h

-- ---- rows that are no account

-- a row that is no account
pub record IsPlain (row : Row) : Type 0 where
  pub money : available_of row.1 ≡ 0
  pub apart : (id : AccountId) → eq_by_cmp key_cmp (key.Account id) row.0 ≡ false

-- the sum over entries
abbrev pub total : (Data → ℕ) → Items → ℕ
total weight no_items = 0
total weight (item d ds) = weight d + total weight ds

-- rows that are no accounts were written, and so much more stays paid from each card's own account
pub record Plainly (before after : Rows) (more : Pan → ℕ) : Type 0 where
  pub available : all_available after ≡ all_available before
  pub accounts : (id : AccountId) → map.get after (key.Account id) ≡ map.get before (key.Account id)
  pub stays : (pan : Pan) → stays (is_from_account (own_account pan)) after ≡ more pan + stays (is_from_account (own_account pan)) before

plain_put : (list : RowList) (rows more : Rows) (row : Row) → IsPlain row → with_row list rows row ≡ Ok more
    → Plainly rows more (λ pan. stay_if (is_from_account (own_account pan)) (kept_in row.0 row.1))
plain_put list rows more row plain h =
    let p = put_row list rows more row h in
    let money = added_to (λ (r : Row). available_of r.1) rows row.0 row.1 p.0 in
    let put : Plainly rows (map.insert rows row.0 row.1) (λ pan. stay_if (is_from_account (own_account pan)) (kept_in row.0 row.1)) = record {
      available = omega (arith, money, plain.money);
      accounts = λ id. get_other rows row.0 row.1 (key.Account id) (plain.apart id);
      stays = λ pan. added_to (λ (r : Row). stay_if (is_from_account (own_account pan)) (kept_in r.0 r.1)) rows row.0 row.1 p.0;
    } in
    subst (λ (m : Rows). Plainly rows m (λ pan. stay_if (is_from_account (own_account pan)) (kept_in row.0 row.1))) p.1 put

-- an entry whose row is written as it is
entry_added : (version : BookVersion) (list : RowList) (d : Data) (rows more : Rows) → has_old_cards version list ≡ false → add_entry version list d rows ≡ Ok more
    → (row : Row) × (entry_of version list d ≡ Ok row) × (with_row list rows row ≡ Ok more)
entry_added version list d rows more others h =
    let b = bound (rows_at version list d) (with_rows list rows) more h in
    let read : (entry_of version list d >>= λ row. Ok (row ∷ [])) ≡ Ok b.0 =
    sym (ap (λ t. cond t (old_card_of d >>= λ card. Ok (migrated_card card)) (entry_of version list d >>= λ row. Ok (row ∷ []))) others) ∙ b.1 in
    let q = bound (entry_of version list d) (λ row. Ok (row ∷ [])) b.0 read in
    let alone : with_rows list rows (q.0 ∷ []) ≡ Ok more = ap (with_rows list rows) (same_ok _ _ q.2) ∙ b.2 in
    let t = bound (with_row list rows q.0) (λ m. Ok m) more alone in
    (q.0, q.1, t.1 ∙ t.2)

-- what is asked of a list whose rows are no accounts
pub record IsPlainList (version : BookVersion) (list : RowList) (weight : Pan → Data → ℕ) : Type 0 where
  pub old : has_old_cards version list ≡ false
  pub plain : (d : Data) (row : Row) → entry_of version list d ≡ Ok row → IsPlain row
  pub weighs : (d : Data) (row : Row) (pan : Pan) → entry_of version list d ≡ Ok row → stay_if (is_from_account (own_account pan)) (kept_in row.0 row.1) ≡ weight pan d

pub plain_list : (version : BookVersion) (list : RowList) (weight : Pan → Data → ℕ) → IsPlainList version list weight → (items : Items) (rows after : Rows)
    → add_entries version list items rows ≡ Ok after → Plainly rows after (λ pan. total (weight pan) items)
unfolding add_entries
plain_list version list weight is no_items rows after h =
    subst (λ (m : Rows). Plainly rows m (λ pan. 0)) (same_ok rows after h) (record { available = refl; accounts = λ id. refl; stays = λ pan. omega arith })
plain_list version list weight is (item d ds) rows after h =
    let b = bound (add_entry version list d rows) (λ more. add_entries version list ds more) after h in
    let one = entry_added version list d rows b.0 is.old b.1 in
    let put = plain_put list rows b.0 one.0 (is.plain d one.0 one.1) one.2 in
    let rest = plain_list version list weight is ds b.0 after b.2 in record {
      available = rest.available ∙ put.available;
      accounts = λ id. rest.accounts id ∙ put.accounts id;
      stays = λ pan. let here = is.weighs d one.0 pan one.1 in let now = put.stays pan in let then = rest.stays pan in omega (arith, here, now, then);
    }

-- ---- cards with their own money

-- a card that isn't there has no account of its own
abbrev pub OwnWithCard : Rows → Type 0
OwnWithCard rows = (pan : Pan) → map.get rows (key.Card pan) ≡ None → map.get rows (key.Account (own_account pan)) ≡ None

-- the card's own account has its money
abbrev pub HasOwn : Rows → OldCard → Type 0
HasOwn rows card = map.get rows (key.Account (own_account card.pan)) ≡ Some (val.Account (account_of_old_card card))

-- these cards were written
pub record Carded (before after : Rows) (cards : List OldCard) : Type 0 where
  pub available : all_available after ≡ sum_by (λ card. card.available) cards + all_available before
  pub own : OwnWithCard after
  pub has : AllByRecursion (HasOwn after) cards
  pub keeps : (id : AccountId) (v : RowVal) → map.get before (key.Account id) ≡ Some v → map.get after (key.Account id) ≡ Some v
  pub stays : (pan : Pan) → stays (is_from_account (own_account pan)) after ≡ stays (is_from_account (own_account pan)) before

-- the rows with a card and its own account
abbrev with_card : Rows → OldCard → Rows
with_card rows card = map.insert (map.insert rows (key.Card card.pan) (val.Card (row_of_old_card card))) (key.Account (own_account card.pan)) (val.Account (account_of_old_card card))

card_put : (rows : Rows) (card : OldCard) → OwnWithCard rows → map.get rows (key.Card card.pan) ≡ None → Carded rows (with_card rows card) (card ∷ [])
card_put rows card own none =
    let ck = key.Card card.pan in
    let cv = val.Card (row_of_old_card card) in
    let ak = key.Account (own_account card.pan) in
    let av = val.Account (account_of_old_card card) in
    let first = map.insert rows ck cv in
    let absent : map.get first ak ≡ None = get_other rows ck cv ak refl ∙ own card.pan none in
    let m1 = added_to (λ (r : Row). available_of r.1) rows ck cv none in
    let m2 = added_to (λ (r : Row). available_of r.1) first ak av absent in
    let m3 = sum_by-cons (λ (c : OldCard). c.available) card [] in record {
      available = omega (arith, m1, m2, m3);
      own = λ pan h.
          let there : cond (eq_by_cmp key_cmp (key.Card pan) ck) (Some cv) (map.get rows (key.Card pan)) ≡ None =
          sym (map.get-insert key_cmp_total rows ck cv (key.Card pan)) ∙ sym (get_other first ak av (key.Card pan) refl) ∙ h in
          map.get-insert key_cmp_total first ak av (key.Account (own_account pan))
          ∙ ap (λ o. cond (eq_by_cmp key_cmp (key.Account (own_account pan)) ak) (Some av) o) (get_other rows ck cv (key.Account (own_account pan)) refl)
          ∙ elim (eq_by_cmp key_cmp (key.Card pan) ck) as (λ b. cond b (Some cv) (map.get rows (key.Card pan)) ≡ None → cond b (Some av) (map.get rows (key.Account (own_account pan))) ≡ None) [
            | true ↦ λ e. absurd cc
            | false ↦ λ e. own pan e
          ] there;
      has = (get-put first ak av, tt);
      keeps = λ id v h.
          let before : map.get first (key.Account id) ≡ Some v = get_other rows ck cv (key.Account id) refl ∙ h in
          map.get-insert key_cmp_total first ak av (key.Account id)
          ∙ elim (key_cmp (key.Account id) ak) as (λ o. key_cmp (key.Account id) ak ≡ o → cond (is_eq o) (Some av) (map.get first (key.Account id)) ≡ Some v) [
            | Less ↦ λ _. before
            | Equal ↦ λ p. absurd (none-some v (sym absent ∙ sym (ap (map.get first) (key_cmp_antisymmetric (key.Account id) ak p)) ∙ before))
            | Greater ↦ λ _. before
          ] refl;
      stays = λ pan.
          let s1 = added_to (λ (r : Row). stay_if (is_from_account (own_account pan)) (kept_in r.0 r.1)) rows ck cv none in
          let s2 = added_to (λ (r : Row). stay_if (is_from_account (own_account pan)) (kept_in r.0 r.1)) first ak av absent in
          omega (arith, s1, s2);
    }

-- a card's entry
card_added : (version : BookVersion) (d : Data) (rows more : Rows) → has_old_cards version Cards ≡ true → add_entry version Cards d rows ≡ Ok more
    → (card : OldCard) × (old_card_of d ≡ Ok card) × (map.get rows (key.Card card.pan) ≡ None) × (with_card rows card ≡ more)
card_added version d rows more old h =
    let b = bound (rows_at version Cards d) (with_rows Cards rows) more h in
    let read : (old_card_of d >>= λ card. Ok (migrated_card card)) ≡ Ok b.0 =
    sym (ap (λ t. cond t (old_card_of d >>= λ card. Ok (migrated_card card)) (entry_of version Cards d >>= λ row. Ok (row ∷ []))) old) ∙ b.1 in
    let q = bound (old_card_of d) (λ card. Ok (migrated_card card)) b.0 read in
    let both : with_rows Cards rows (migrated_card q.0) ≡ Ok more = ap (with_rows Cards rows) (same_ok _ _ q.2) ∙ b.2 in
    let row : Row = (key.Card q.0.pan, val.Card (row_of_old_card q.0)) in
    let account : Row = (key.Account (own_account q.0.pan), val.Account (account_of_old_card q.0)) in
    let t = bound (with_row Cards rows row) (λ m. Ok (overlay m (account ∷ []))) more both in
    let p = put_row Cards rows t.0 row t.1 in
    (q.0, q.1, p.0, ap (λ (m : Rows). map.insert m account.0 account.1) p.1 ∙ same_ok _ _ t.2)

pub cards_list : (version : BookVersion) → has_old_cards version Cards ≡ true → (items : Items) (rows after : Rows) → OwnWithCard rows
    → add_entries version Cards items rows ≡ Ok after → Carded rows after (read_all old_card_of items)
unfolding add_entries
cards_list version old no_items rows after own h =
    subst (λ (m : Rows). Carded rows m []) (same_ok rows after h) (record { available = omega arith; own = own; has = tt; keeps = λ id v e. e; stays = λ pan. refl })
cards_list version old (item d ds) rows after own h =
    let b = bound (add_entry version Cards d rows) (λ more. add_entries version Cards ds more) after h in
    let one = card_added version d rows b.0 old b.1 in
    let card = one.0 in
    let put : Carded rows b.0 (card ∷ []) = subst (λ (m : Rows). Carded rows m (card ∷ [])) one.3 (card_put rows card own one.2) in
    let rest = cards_list version old ds b.0 after put.own b.2 in
    let m1 = sum_by-cons (λ (c : OldCard). c.available) card (read_all old_card_of ds) in
    let m2 = sum_by-cons (λ (c : OldCard). c.available) card [] in
    let m3 = put.available in
    let m4 = rest.available in
    let all : Carded rows after (card ∷ read_all old_card_of ds) = record {
      available = omega (arith, m1, m2, m3, m4);
      own = rest.own;
      has = (rest.keeps (own_account card.pan) (val.Account (account_of_old_card card)) put.has.0, rest.has);
      keeps = λ id v e. rest.keeps id v (put.keeps id v e);
      stays = λ pan. rest.stays pan ∙ put.stays pan;
    } in
    subst (λ (r : Result OldCard TextFault). Carded rows after (with_read r (read_all old_card_of ds))) (sym one.1) all
