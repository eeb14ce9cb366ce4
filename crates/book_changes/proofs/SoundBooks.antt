-- Both books are sound where the book is.
use Rattle.std.proofs.Common.{◌≡◌, ℕ, ◌≤◌, ◌^◌, Bool, true, false, ◌&&◌, ◌||◌, not, cond, if◌then◌else◌, List, [], ◌∷◌, Option, Some, None, is_some, refl, sym, ap, ◌∙◌, subst, arith}
use Rattle.std.proofs.lemmas.Bool.{false≢true, and_parts, or_right}
use Rattle.std.proofs.lemmas.List.Sums.{sum_by-cons}
use Rattle.std.specs.Cmp.Derive.{both_true}
use Rattle.std.specs.FinMap as map
use Rattle.std.specs.FinMap.Entries.{where_key, is_sorted-where_key, find-where_key, same_entries}
use Rattle.std.specs.List.{AllByRecursion, filter, list_all, list_any, sum_by}
use Rattle.issuer_words.specs.Words.{AccountId, KeptOriginal, PanPrefix, Payer, Payment, RowKey, RowVal, Rows, account_in, account_paid, available_in, backing_of_account, backing_of_prefix, budget_in, is_account, is_from_account, is_from_budget, kept_in, key_cmp, left_in, payment_of_outcome, stay_if, stays}
use Rattle.issuer_rows.proofs.KeyLaws.{key_cmp_total, key_cmp_antisymmetric, text_eq_decides}
use Rattle.issuer_rows.proofs.ListedRows.{listed_found}
use Rattle.issuer_laws.specs.Rules.{has}
use Rattle.book_laws.specs.CheckBook.{has_right_number, has_account, has_payer, is_backed, has_paying_account, has_accounts, are_numbers_right, IsSound}
use Rattle.book_changes.specs.Archive.{is_past, is_past_at, has_paid, has_paid_before, new_rows, old_rows}
use Rattle.book_changes.specs.Joining.{LeavesBothSound}
use Rattle.book_changes.proofs.Splitting.{Row, is_new, is_old, get_retained, get_new, get_old, any_row}
use Rattle.book_laws.proofs.AccountsKept.{KeepsAllAccounts, paying_stays, accounts_stay}

-- ---- rows that are left of a book

pub entries_retained : (rows : Rows) (test : RowKey → Bool) → map.entries (map.retain_keys rows test) ≡ where_key key_cmp test (map.entries rows)
entries_retained rows test =
    same_entries key_cmp key_cmp_total key_cmp_antisymmetric (map.entries (map.retain_keys rows test)) (where_key key_cmp test (map.entries rows)) (map.entries_sorted (map.retain_keys rows test))
    (is_sorted-where_key key_cmp test (map.entries rows) (map.entries_sorted rows))
    (λ q.
    sym (map.get-entries (map.retain_keys rows test) q) ∙ get_retained rows test q ∙ ap (λ (o : Option RowVal). cond (test q) o None) (map.get-entries rows q)
    ∙ sym (find-where_key key_cmp test q (λ x tie. ap test (sym (key_cmp_antisymmetric q x tie))) (map.entries rows)))

-- each row that is left passes a test, where each row of the book that is left does
all_left : (left : Row → Bool) (test other : Row → Bool) (P : Row → Type 0) (es : List Row) → ((e : Row) → P e → left e ≡ true → test e ≡ true → other e ≡ true) → AllByRecursion P es → list_all test es ≡ true → list_all other (filter left es) ≡ true
all_left left test other P [] implies there h = refl
all_left left test other P (e ∷ es) implies there h =
    let rest = λ (more : list_all test es ≡ true). all_left left test other P es implies there.1 more in
    elim (left e) as (λ b. left e ≡ b → list_all other (if b then e ∷ filter left es else filter left es) ≡ true) [
      | true ↦ λ is. both_true (implies e there.0 is (and_parts (test e) _ h).0) (rest (and_parts (test e) _ h).1)
      | false ↦ λ _. rest (and_parts (test e) _ h).1
    ] refl

pub all_retained : (keys : RowKey → Bool) (test other : Row → Bool) (rows : Rows) → ((e : Row) → map.get rows e.0 ≡ Some e.1 → keys e.0 ≡ true → test e ≡ true → other e ≡ true) → list_all test (map.entries rows) ≡ true → list_all other (map.entries (map.retain_keys rows keys)) ≡ true
all_retained keys test other rows implies h =
    ap (list_all other) (entries_retained rows keys)
    ∙ all_left (λ e. keys e.0) test other (λ e. map.get rows e.0 ≡ Some e.1) (map.entries rows) implies (listed_found rows) h

pub sum_left : (f : Row → ℕ) (left : Row → Bool) (es : List Row) → sum_by f (filter left es) ≤ sum_by f es
sum_left f left [] = omega arith
sum_left f left (e ∷ es) =
    let rest = sum_left f left es in
    elim (left e) as (λ b. sum_by f (if b then e ∷ filter left es else filter left es) ≤ sum_by f (e ∷ es)) [
      | true ↦ omega (arith, rest, sum_by-cons f e es, sum_by-cons f e (filter left es))
      | false ↦ omega (arith, rest, sum_by-cons f e es)
    ]

stays_left : (rows : Rows) (keys : RowKey → Bool) (is_one : KeptOriginal → Bool) → stays is_one (map.retain_keys rows keys) ≤ stays is_one rows
stays_left rows keys is_one =
    subst (λ (es : List Row). sum_by (λ row. stay_if is_one (kept_in row.0 row.1)) es ≤ stays is_one rows) (sym (entries_retained rows keys))
    (sum_left (λ row. stay_if is_one (kept_in row.0 row.1)) (λ e. keys e.0) (map.entries rows))

available_left : (b : Bool) (o : Option RowVal) → available_in (account_in (cond b o None)) ≤ available_in (account_in o)
available_left true o = omega arith
available_left false o = omega arith

budget_left : (b : Bool) (o : Option RowVal) → left_in (budget_in (cond b o None)) ≤ left_in (budget_in o)
budget_left true o = omega arith
budget_left false o = omega arith

account_backed : (rows : Rows) (keys : RowKey → Bool) (id : AccountId) → backing_of_account (map.retain_keys rows keys) id ≤ backing_of_account rows id
account_backed rows keys id =
    let one = ap (λ (o : Option RowVal). available_in (account_in o)) (get_retained rows keys (RowKey.Account id)) in
    let less = available_left (keys (RowKey.Account id)) (map.get rows (RowKey.Account id)) in
    let rest = stays_left rows keys (is_from_account id) in
    omega (arith, one, less, rest)

prefix_backed : (rows : Rows) (keys : RowKey → Bool) (prefix : PanPrefix) → backing_of_prefix (map.retain_keys rows keys) prefix ≤ backing_of_prefix rows prefix
prefix_backed rows keys prefix =
    let one = ap (λ (o : Option RowVal). left_in (budget_in o)) (get_retained rows keys (RowKey.Budget prefix)) in
    let less = budget_left (keys (RowKey.Budget prefix)) (map.get rows (RowKey.Budget prefix)) in
    let rest = stays_left rows keys (is_from_budget prefix) in
    omega (arith, one, less, rest)

-- numbers and backings of what is left
pub in_range : (rows : Rows) (keys : RowKey → Bool) → IsSound rows → ((id : AccountId) → backing_of_account (map.retain_keys rows keys) id ≤ 10 ^ 15) × ((prefix : PanPrefix) → backing_of_prefix (map.retain_keys rows keys) prefix ≤ 10 ^ 15)
in_range rows keys h = (
  λ id. let less = account_backed rows keys id in let most = h.backings.0 id in omega (arith, less, most),
  λ prefix. let less = prefix_backed rows keys prefix in let most = h.backings.1 prefix in omega (arith, less, most),
)

pub right_numbers : (rows : Rows) (keys : RowKey → Bool) → IsSound rows → are_numbers_right (map.retain_keys rows keys) ≡ true
right_numbers rows keys h = all_retained keys (λ row. has_right_number row.0) (λ row. has_right_number row.0) rows (λ e found left right. right) h.numbers

-- ---- the new book

account_now : (date : List ℕ) (rows : Rows) (id : AccountId) → is_past_at date rows (RowKey.Account id) ≡ false
account_now date rows id = each (map.get rows (RowKey.Account id))
  where
    each : (o : Option RowVal) → has (is_past date (RowKey.Account id)) o ≡ false
    each None = refl
    each (Some v) = refl

keeps_accounts : (date : List ℕ) (rows : Rows) → KeepsAllAccounts rows (new_rows date rows)
keeps_accounts date rows id h =
    ap (λ (o : Option RowVal). is_some (account_in o)) (get_new date rows (RowKey.Account id) ∙ ap (λ b. cond (not b) (map.get rows (RowKey.Account id)) None) (account_now date rows id)) ∙ h

new_sound : (date : List ℕ) (rows : Rows) → IsSound rows → IsSound (new_rows date rows)
new_sound date rows h = record {
  numbers = right_numbers rows (is_new date rows) h;
  payers = all_retained (is_new date rows) (λ row. has_paying_account rows row.1) (λ row. has_paying_account (new_rows date rows) row.1) rows (λ e found left. paying_stays rows (new_rows date rows) (keeps_accounts date rows) e.1) h.payers;
  backings = in_range rows (is_new date rows) h;
  accounts = all_retained (is_new date rows) (λ row. has_accounts rows row.1) (λ row. has_accounts (new_rows date rows) row.1) rows (λ e found left. accounts_stay rows (new_rows date rows) (keeps_accounts date rows) e.1) h.accounts;
}

-- ---- the old book

-- What a row of the old book is: a card's day, an account, or an original whose payer paid before.
abbrev IsOldValue : List ℕ → Rows → RowVal → Type 0
IsOldValue date rows (RowVal.Velocity row) = Unit {0}
IsOldValue date rows (RowVal.Account row) = Unit {0}
IsOldValue date rows (RowVal.Kept k) = (id : AccountId) → account_paid id (payment_of_outcome k.outcome) ≡ true → has_paid_before date rows (RowKey.Account id) ≡ true
IsOldValue date rows (RowVal.Card row) = ⊥
IsOldValue date rows (RowVal.Budget row) = ⊥
IsOldValue date rows (RowVal.Ahead mark) = ⊥

past_value : (date : List ℕ) (rows : Rows) (k : RowKey) (v : RowVal) → map.get rows k ≡ Some v → is_past date k v ≡ true → IsOldValue date rows v
past_value date rows (RowKey.Card pan) v found h = absurd (false≢true h)
past_value date rows (RowKey.Budget prefix) v found h = absurd (false≢true h)
past_value date rows (RowKey.Account id) v found h = absurd (false≢true h)
past_value date rows (RowKey.Velocity pan day) (RowVal.Velocity row) found h = tt
past_value date rows (RowKey.Velocity pan day) (RowVal.Card row) found h = absurd (false≢true h)
past_value date rows (RowKey.Velocity pan day) (RowVal.Budget row) found h = absurd (false≢true h)
past_value date rows (RowKey.Velocity pan day) (RowVal.Kept k) found h = absurd (false≢true h)
past_value date rows (RowKey.Velocity pan day) (RowVal.Ahead mark) found h = absurd (false≢true h)
past_value date rows (RowKey.Velocity pan day) (RowVal.Account row) found h = absurd (false≢true h)
past_value date rows (RowKey.Original identity) (RowVal.Kept k) found h = λ id paid.
    any_row (λ row. is_past date row.0 row.1 && has_paid (RowKey.Account id) row.1) rows (RowKey.Original identity) (RowVal.Kept k) found (both_true h paid)
past_value date rows (RowKey.Original identity) (RowVal.Card row) found h = absurd (false≢true h)
past_value date rows (RowKey.Original identity) (RowVal.Velocity row) found h = absurd (false≢true h)
past_value date rows (RowKey.Original identity) (RowVal.Budget row) found h = absurd (false≢true h)
past_value date rows (RowKey.Original identity) (RowVal.Ahead mark) found h = absurd (false≢true h)
past_value date rows (RowKey.Original identity) (RowVal.Account row) found h = absurd (false≢true h)

-- a key that paid is that of an account that is there
record IsPayer (rows : Rows) (k : RowKey) : Type 0 where
  id : AccountId
  key : k ≡ RowKey.Account id
  there : has_account rows id ≡ true

payer_of : (rows : Rows) (id : AccountId) (p : Option Payment) → account_paid id p ≡ true → is_backed rows p ≡ true → has_account rows id ≡ true
payer_of rows id None paid backed = absurd (false≢true paid)
payer_of rows id (Some payment) paid backed = of_payer payment.payer paid backed
  where
    of_payer : (p : Payer) → is_account id p ≡ true → has_payer rows p ≡ true → has_account rows id ≡ true
    of_payer Payer.Budget paid backed = absurd (false≢true paid)
    of_payer (Payer.Account own) paid backed =
        let text : own.0 ≡ id.0 = (text_eq_decides own.0 id.0).0 paid in
        let same : own ≡ id = (λ i. record { 0 = text i }) in
        ap (has_account rows) (sym same) ∙ backed

own_payer : (rows : Rows) (k : RowKey) (v : RowVal) → has_paid k v ≡ true → has_paying_account rows v ≡ true → IsPayer rows k
own_payer rows (RowKey.Account id) (RowVal.Kept k) paid backed = record { id = id; key = refl; there = payer_of rows id (payment_of_outcome k.outcome) paid backed }
own_payer rows (RowKey.Account id) (RowVal.Card row) paid backed = absurd (false≢true paid)
own_payer rows (RowKey.Account id) (RowVal.Velocity row) paid backed = absurd (false≢true paid)
own_payer rows (RowKey.Account id) (RowVal.Budget row) paid backed = absurd (false≢true paid)
own_payer rows (RowKey.Account id) (RowVal.Ahead mark) paid backed = absurd (false≢true paid)
own_payer rows (RowKey.Account id) (RowVal.Account row) paid backed = absurd (false≢true paid)
own_payer rows (RowKey.Card pan) v paid backed = absurd (false≢true paid)
own_payer rows (RowKey.Velocity pan day) v paid backed = absurd (false≢true paid)
own_payer rows (RowKey.Budget prefix) v paid backed = absurd (false≢true paid)
own_payer rows (RowKey.Original identity) v paid backed = absurd (false≢true paid)

paid_account : (date : List ℕ) (rows : Rows) (k : RowKey) (es : List Row) → list_all (λ row. has_paying_account rows row.1) es ≡ true → list_any (λ row. is_past date row.0 row.1 && has_paid k row.1) es ≡ true → IsPayer rows k
paid_account date rows k [] backed paid = absurd (false≢true paid)
paid_account date rows k (e ∷ es) backed paid =
    let two = and_parts (has_paying_account rows e.1) _ backed in
    elim (is_past date e.0 e.1 && has_paid k e.1) as (λ b. (is_past date e.0 e.1 && has_paid k e.1) ≡ b → (b || list_any (λ row. is_past date row.0 row.1 && has_paid k row.1) es) ≡ true → IsPayer rows k) [
      | true ↦ λ own _. own_payer rows k e.1 (and_parts (is_past date e.0 e.1) _ own).1 two.0
      | false ↦ λ _ rest. paid_account date rows k es two.1 rest
    ] refl paid

account_value : (date : List ℕ) (rows : Rows) (v : RowVal) → is_some (account_in (Some v)) ≡ true → IsOldValue date rows v
account_value date rows (RowVal.Account row) h = tt
account_value date rows (RowVal.Card row) h = absurd (false≢true h)
account_value date rows (RowVal.Velocity row) h = absurd (false≢true h)
account_value date rows (RowVal.Budget row) h = absurd (false≢true h)
account_value date rows (RowVal.Kept k) h = absurd (false≢true h)
account_value date rows (RowVal.Ahead mark) h = absurd (false≢true h)

old_value : (date : List ℕ) (rows : Rows) → IsSound rows → (k : RowKey) (v : RowVal) → map.get rows k ≡ Some v → is_old date rows k ≡ true → IsOldValue date rows v
old_value date rows sound k v found h =
    elim (is_past_at date rows k) as (λ b. is_past_at date rows k ≡ b → (b || has_paid_before date rows k) ≡ true → IsOldValue date rows v) [
      | true ↦ λ past _. past_value date rows k v found (ap (has (is_past date k)) (sym found) ∙ past)
      | false ↦ λ _ paid.
          let payer = paid_account date rows k (map.entries rows) sound.payers paid in
          let stands : map.get rows (RowKey.Account payer.id) ≡ Some v = ap (map.get rows) (sym payer.key) ∙ found in
          account_value date rows v (ap (λ (o : Option RowVal). is_some (account_in o)) (sym stands) ∙ payer.there)
    ] refl h

old_account : (date : List ℕ) (rows : Rows) (id : AccountId) → has_account rows id ≡ true → has_paid_before date rows (RowKey.Account id) ≡ true → has_account (old_rows date rows) id ≡ true
old_account date rows id there paid =
    ap (λ (o : Option RowVal). is_some (account_in o))
    (get_old date rows (RowKey.Account id) ∙ ap (λ b. cond b (map.get rows (RowKey.Account id)) None) (or_right (is_past_at date rows (RowKey.Account id)) (has_paid_before date rows (RowKey.Account id)) paid))
    ∙ there

old_backed : (date : List ℕ) (rows : Rows) (p : Option Payment) → is_backed rows p ≡ true → ((id : AccountId) → account_paid id p ≡ true → has_paid_before date rows (RowKey.Account id) ≡ true) → is_backed (old_rows date rows) p ≡ true
old_backed date rows None backed paid = refl
old_backed date rows (Some payment) backed paid = of_payer payment.payer backed paid
  where
    of_payer : (p : Payer) → has_payer rows p ≡ true → ((id : AccountId) → is_account id p ≡ true → has_paid_before date rows (RowKey.Account id) ≡ true) → has_payer (old_rows date rows) p ≡ true
    of_payer Payer.Budget backed paid = refl
    of_payer (Payer.Account id) backed paid = old_account date rows id backed (paid id ((text_eq_decides id.0 id.0).1 refl))

old_paying : (date : List ℕ) (rows : Rows) (v : RowVal) → IsOldValue date rows v → has_paying_account rows v ≡ true → has_paying_account (old_rows date rows) v ≡ true
old_paying date rows (RowVal.Kept k) old backed = old_backed date rows (payment_of_outcome k.outcome) backed old
old_paying date rows (RowVal.Velocity row) old backed = refl
old_paying date rows (RowVal.Account row) old backed = refl
old_paying date rows (RowVal.Card row) old backed = refl
old_paying date rows (RowVal.Budget row) old backed = refl
old_paying date rows (RowVal.Ahead mark) old backed = refl

old_accounts : (date : List ℕ) (rows : Rows) (v : RowVal) → IsOldValue date rows v → has_accounts (old_rows date rows) v ≡ true
old_accounts date rows (RowVal.Card row) old = absurd old
old_accounts date rows (RowVal.Velocity row) old = refl
old_accounts date rows (RowVal.Budget row) old = refl
old_accounts date rows (RowVal.Kept k) old = refl
old_accounts date rows (RowVal.Ahead mark) old = refl
old_accounts date rows (RowVal.Account row) old = refl

old_sound : (date : List ℕ) (rows : Rows) → IsSound rows → IsSound (old_rows date rows)
old_sound date rows h = record {
  numbers = right_numbers rows (is_old date rows) h;
  payers = all_retained (is_old date rows) (λ row. has_paying_account rows row.1) (λ row. has_paying_account (old_rows date rows) row.1) rows (λ e found left backed. old_paying date rows e.1 (old_value date rows h e.0 e.1 found left) backed) h.payers;
  backings = in_range rows (is_old date rows) h;
  accounts = all_retained (is_old date rows) (λ row. has_accounts rows row.1) (λ row. has_accounts (old_rows date rows) row.1) rows (λ e found left is. old_accounts date rows e.1 (old_value date rows h e.0 e.1 found left)) h.accounts;
}

pub both_sound : (date : List ℕ) (rows : Rows) → LeavesBothSound date rows
both_sound date rows h = (new_sound date rows h, old_sound date rows h)
