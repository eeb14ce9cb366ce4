-- The parts' books and the rest are sound where the book is.
use Rattle.std.proofs.Common.{◌≡◌, Bool, true, false, ◌&&◌, ◌||◌, not, List, [], ◌∷◌, Option, Some, None, is_some, inl, inr, refl, sym, ap, ◌∙◌, subst}
use Rattle.std.proofs.lemmas.Bool.{false≢true, and_parts, or_right}
use Rattle.std.specs.Cmp.Derive.{both_true}
use Rattle.std.specs.FinMap as map
use Rattle.std.specs.List.{list_any}
use Rattle.issuer_words.specs.Words.{AccountId, AccountsOfCard, Frame, Payer, Payment, RowKey, RowVal, Rows, account_in, is_same_account, payment_of_outcome}
use Rattle.issuer_laws.specs.Parts.{IsIn, second_key, payer_keys, payment_keys, may_need, Parted, bodies, of_part}
use Rattle.book_changes.proofs.SoundBooks.{all_retained, in_range, right_numbers}
use Rattle.book_laws.specs.CheckBook.{has_account, has_payer, is_backed, has_paying_account, has_second, are_accounts, has_accounts, IsSound}
use Rattle.parts_books.proofs.Listed.{among_in, in_among, in_front, in_back, passes_left}
use Rattle.parts_books.proofs.Places.{is_left}
use Rattle.parts_books.specs.PartBooks.{accounts_of, has_account_at, is_among, is_for, is_for_one, lent_keys, rows_for, rest_rows}
use Rattle.parts_books.specs.Together.{LeavesPartsSound}
use Rattle.book_laws.proofs.AccountsKept.{KeepsAllAccounts, accounts_stay, paying_stays}

-- ---- the rest, which has all accounts

rest_keeps : (rows : Rows) (frames : List Frame) → KeepsAllAccounts rows (rest_rows rows frames)
rest_keeps rows frames id h = ap (λ (o : Option RowVal). is_some (account_in o)) (passes_left rows (is_left rows frames) (RowKey.Account id) refl) ∙ h

rest_sound : (rows : Rows) (frames : List Frame) → IsSound rows → IsSound (rest_rows rows frames)
rest_sound rows frames h =
    let rest = rest_rows rows frames in
    let keeps = rest_keeps rows frames in
    record {
      numbers = right_numbers rows (is_left rows frames) h;
      payers = all_retained (is_left rows frames) (λ row. has_paying_account rows row.1) (λ row. has_paying_account rest row.1) rows (λ e found left. paying_stays rows rest keeps e.1) h.payers;
      backings = in_range rows (is_left rows frames) h;
      accounts = all_retained (is_left rows frames) (λ row. has_accounts rows row.1) (λ row. has_accounts rest row.1) rows (λ e found left. accounts_stay rows rest keeps e.1) h.accounts;
    }

-- ---- a row's accounts, which are lent with it

lent_in : (rows : Rows) (needs : List RowKey) (k a : RowKey) → IsIn k needs → IsIn a (accounts_of (map.get rows k)) → IsIn a (lent_keys rows needs)
lent_in rows [] k a h own = absurd h
lent_in rows (n ∷ needs) k a (inl same) own =
    in_front a (accounts_of (map.get rows n)) (lent_keys rows needs) (subst (λ (q : RowKey). IsIn a (accounts_of (map.get rows q))) same own)
lent_in rows (n ∷ needs) k a (inr h) own = in_back a (accounts_of (map.get rows n)) (lent_keys rows needs) (lent_in rows needs k a h own)

any_implies : (one other : Frame → Bool) (frames : List Frame) → ((f : Frame) → one f ≡ true → other f ≡ true) → list_any one frames ≡ true → list_any other frames ≡ true
any_implies one other [] implies h = h
any_implies one other (f ∷ frames) implies h =
    elim (one f) as (λ b. one f ≡ b → (b || list_any one frames) ≡ true → (other f || list_any other frames) ≡ true) [
      | true ↦ λ own _. ap (λ (b : Bool). b || list_any other frames) (implies f own)
      | false ↦ λ _ more. or_right (other f) (list_any other frames) (any_implies one other frames implies more)
    ] refl h

-- an account has none
account_alone : (v : RowVal) (a : RowKey) → is_some (account_in (Some v)) ≡ true → IsIn a (accounts_of (Some v)) → ⊥
account_alone (RowVal.Account row) a h own = own
account_alone (RowVal.Card row) a h own = false≢true h
account_alone (RowVal.Velocity row) a h own = false≢true h
account_alone (RowVal.Budget row) a h own = false≢true h
account_alone (RowVal.Kept k) a h own = false≢true h
account_alone (RowVal.Ahead mark) a h own = false≢true h

-- what is for a message comes with its accounts
brings_accounts : (rows : Rows) (k : RowKey) (v : RowVal) (a : RowKey) (frame : Frame) → map.get rows k ≡ Some v → IsIn a (accounts_of (Some v)) → has_account_at rows a ≡ true → is_for rows k frame ≡ true → is_for rows a frame ≡ true
brings_accounts rows k v a frame at own there h =
    let needs = may_need rows frame in
    elim (is_among k needs) as (λ b. is_among k needs ≡ b → (b || (has_account_at rows k && is_among k (lent_keys rows needs))) ≡ true → is_for rows a frame ≡ true) [
      | true ↦ λ needed _.
          let lent = among_in a (lent_keys rows needs) (lent_in rows needs k a (in_among k needs needed) (subst (λ (o : Option RowVal). IsIn a (accounts_of o)) (sym at) own)) in
          or_right (is_among a needs) (has_account_at rows a && is_among a (lent_keys rows needs)) (both_true there lent)
      | false ↦ λ _ lent.
          absurd (account_alone v a (ap (λ (o : Option RowVal). is_some (account_in o)) (sym at) ∙ (and_parts (has_account_at rows k) (is_among k (lent_keys rows needs)) lent).0) own)
    ] refl h

-- ---- the rows for messages

-- the accounts of a row are there, where they were
abbrev HasAccountsOf : Rows → Rows → RowVal → Type 0
HasAccountsOf rows after v = (a : RowKey) → IsIn a (accounts_of (Some v)) → has_account_at rows a ≡ true → has_account_at after a ≡ true

accounts_brought : (rows : Rows) (frames : List Frame) (k : RowKey) (v : RowVal) → map.get rows k ≡ Some v → is_for_one rows frames k ≡ true → HasAccountsOf rows (rows_for rows frames) v
accounts_brought rows frames k v at h a own there =
    ap (λ (o : Option RowVal). is_some (account_in o))
    (passes_left rows (is_for_one rows frames) a (any_implies (is_for rows k) (is_for rows a) frames (λ f. brings_accounts rows k v a f at own there) h))
    ∙ there

payer_brought : (rows after : Rows) (o : Option Payment) → ((a : RowKey) → IsIn a (payment_keys o) → has_account_at rows a ≡ true → has_account_at after a ≡ true) → is_backed rows o ≡ true → is_backed after o ≡ true
payer_brought rows after None brought h = refl
payer_brought rows after (Some payment) brought h = of_payer payment.payer brought h
  where
    of_payer : (p : Payer) → ((a : RowKey) → IsIn a (payer_keys p) → has_account_at rows a ≡ true → has_account_at after a ≡ true) → has_payer rows p ≡ true → has_payer after p ≡ true
    of_payer (Payer.Account id) brought h = brought (RowKey.Account id) (inl refl) h
    of_payer Payer.Budget brought h = refl

paying_brought : (rows after : Rows) (v : RowVal) → HasAccountsOf rows after v → has_paying_account rows v ≡ true → has_paying_account after v ≡ true
paying_brought rows after (RowVal.Kept k) brought h = payer_brought rows after (payment_of_outcome k.outcome) brought h
paying_brought rows after (RowVal.Card row) brought h = refl
paying_brought rows after (RowVal.Velocity row) brought h = refl
paying_brought rows after (RowVal.Budget row) brought h = refl
paying_brought rows after (RowVal.Ahead mark) brought h = refl
paying_brought rows after (RowVal.Account row) brought h = refl

second_brought : (rows after : Rows) (first : AccountId) (o : Option AccountId) → ((a : RowKey) → IsIn a (second_key o) → has_account_at rows a ≡ true → has_account_at after a ≡ true) → has_second rows first o ≡ true → has_second after first o ≡ true
second_brought rows after first None brought h = refl
second_brought rows after first (Some second) brought h =
    let two = and_parts (has_account rows second) (not (is_same_account second first)) h in both_true (brought (RowKey.Account second) (inl refl) two.0) two.1

card_brought : (rows after : Rows) (accounts : AccountsOfCard) → ((a : RowKey) → IsIn a (RowKey.Account accounts.first ∷ second_key accounts.second) → has_account_at rows a ≡ true → has_account_at after a ≡ true) → are_accounts rows accounts ≡ true → are_accounts after accounts ≡ true
card_brought rows after accounts brought h =
    let two = and_parts (has_account rows accounts.first) (has_second rows accounts.first accounts.second) h in
    both_true (brought (RowKey.Account accounts.first) (inl refl) two.0) (second_brought rows after accounts.first accounts.second (λ a own. brought a (inr own)) two.1)

accounts_kept : (rows after : Rows) (v : RowVal) → HasAccountsOf rows after v → has_accounts rows v ≡ true → has_accounts after v ≡ true
accounts_kept rows after (RowVal.Card row) brought h =
    card_brought rows after row.accounts (λ a own. brought a (in_front a (RowKey.Account row.accounts.first ∷ second_key row.accounts.second) [] own)) h
accounts_kept rows after (RowVal.Velocity row) brought h = refl
accounts_kept rows after (RowVal.Budget row) brought h = refl
accounts_kept rows after (RowVal.Kept k) brought h = refl
accounts_kept rows after (RowVal.Ahead mark) brought h = refl
accounts_kept rows after (RowVal.Account row) brought h = refl

for_sound : (rows : Rows) (frames : List Frame) → IsSound rows → IsSound (rows_for rows frames)
for_sound rows frames h =
    let after = rows_for rows frames in
    let test = is_for_one rows frames in
    record {
      numbers = right_numbers rows test h;
      payers = all_retained test (λ row. has_paying_account rows row.1) (λ row. has_paying_account after row.1) rows (λ e found left. paying_brought rows after e.1 (accounts_brought rows frames e.0 e.1 found left)) h.payers;
      backings = in_range rows test h;
      accounts = all_retained test (λ row. has_accounts rows row.1) (λ row. has_accounts after row.1) rows (λ e found left. accounts_kept rows after e.1 (accounts_brought rows frames e.0 e.1 found left)) h.accounts;
    }

pub parts_sound : (rows : Rows) (ms : Parted) → LeavesPartsSound rows ms
parts_sound rows ms h = (λ p. for_sound rows (of_part p ms) h, rest_sound rows (bodies ms) h)
