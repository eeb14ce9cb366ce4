-- What is wrong with a book that comes from outside.
use Rattle.std.specs.Prelude.{◌≡◌, ℕ, ◌+◌, ◌≤◌, ◌^◌, Bool, true, false, ◌&&◌, not, List, Option, Some, None, IsTrue, IfSome, is_some}
use Rattle.std.specs.List.{list_all, AllByRecursion}
use Rattle.std.specs.FinMap as map
use Rattle.issuer_words.specs.Words.{AccountId, AccountsOfCard, KeptOriginal, PanPrefix, Payer, Payment, RowKey, RowVal, Rows, account_in, available_in, backing_of_account, backing_of_prefix, budget_in, budget_paid, is_from_account, is_from_budget, is_same_account, kept_in, left_in, passes_luhn, payment_of_outcome, prefix_of, stays}
use Rattle.book_laws.specs.declared.book_fault.BookFault.{BookFault}
use Rattle.book_laws.specs.declared.book_fault.BookFault.TheVariants.{CardNumber, OriginalWithoutAccount, OutOfRange, CardWithoutAccount}
use Rattle.book_laws.specs.declared.paid_from.PaidFrom.{PaidFrom}
use Rattle.book_laws.specs.declared.paid_from.PaidFrom.TheVariants as from
use Rattle.issuer_rows.specs.declared.payer.Payer.TheVariants as payer
use Rattle.issuer_rows.specs.declared.row_key.RowKey.TheVariants as key
use Rattle.issuer_rows.specs.declared.row_val.RowVal.TheVariants as val

-- the number of a card passes the Luhn test
abbrev pub has_right_number : RowKey → Bool
has_right_number (key.Card pan) = passes_luhn pan.0
has_right_number (key.Velocity pan day) = true
has_right_number (key.Budget prefix) = true
has_right_number (key.Original identity) = true
has_right_number (key.Account id) = true

-- the account has a row
abbrev pub has_account : Rows → AccountId → Bool
has_account rows id = is_some (account_in (map.get rows (key.Account id)))

-- what paid has a row, where it is an account
abbrev pub has_payer : Rows → Payer → Bool
has_payer rows (payer.Account id) = has_account rows id
has_payer rows payer.Budget = true

-- what paid for an original, if anything did, has a row where it is an account
abbrev pub is_backed : Rows → Option Payment → Bool
is_backed rows None = true
is_backed rows (Some payment) = has_payer rows payment.payer

-- the account that paid for an original has a row
abbrev pub has_paying_account : Rows → RowVal → Bool
has_paying_account rows (val.Card row) = true
has_paying_account rows (val.Velocity row) = true
has_paying_account rows (val.Budget row) = true
has_paying_account rows (val.Kept k) = is_backed rows (payment_of_outcome k.outcome)
has_paying_account rows (val.Ahead mark) = true
has_paying_account rows (val.Account row) = true

-- a second account, if there is one, has a row and is not the first
abbrev pub has_second : Rows → AccountId → Option AccountId → Bool
has_second rows first None = true
has_second rows first (Some second) = has_account rows second && not (is_same_account second first)

-- the accounts have rows and are not the same
abbrev pub are_accounts : Rows → AccountsOfCard → Bool
are_accounts rows accounts = has_account rows accounts.first && has_second rows accounts.first accounts.second

-- the accounts of a card have rows and are not the same
abbrev pub has_accounts : Rows → RowVal → Bool
has_accounts rows (val.Card row) = are_accounts rows row.accounts
has_accounts rows (val.Velocity row) = true
has_accounts rows (val.Budget row) = true
has_accounts rows (val.Kept k) = true
has_accounts rows (val.Ahead mark) = true
has_accounts rows (val.Account row) = true

-- each card's number passes the Luhn test
abbrev pub are_numbers_right : Rows → Bool
are_numbers_right rows = list_all (λ row. has_right_number row.0) (map.entries rows)

-- each original that was paid from an account finds the account's row
abbrev pub have_paying_accounts : Rows → Bool
have_paying_accounts rows = list_all (λ row. has_paying_account rows row.1) (map.entries rows)

-- the backing of each account and of each prefix is at most 10^15
abbrev pub AreBackingsInRange : Rows → Type 0
AreBackingsInRange rows = ((id : AccountId) → backing_of_account rows id ≤ 10 ^ 15) × ((prefix : PanPrefix) → backing_of_prefix rows prefix ≤ 10 ^ 15)

-- each card finds the rows of its accounts, which are not the same
abbrev pub have_accounts : Rows → Bool
have_accounts rows = list_all (λ row. has_accounts rows row.1) (map.entries rows)

-- nothing is wrong with the book
pub record IsSound (rows : Rows) : Type 0 where
  pub numbers : IsTrue (are_numbers_right rows)
  pub payers : IsTrue (have_paying_accounts rows)
  pub backings : AreBackingsInRange rows
  pub accounts : IsTrue (have_accounts rows)

-- nothing is wrong with the book but, maybe, the accounts of its cards
abbrev pub IsRestSound : Rows → Type 0
IsRestSound rows = IsTrue (are_numbers_right rows) × IsTrue (have_paying_accounts rows) × AreBackingsInRange rows

-- this is wrong with the book, and no fault of a lower number is there
abbrev pub IsFirstFault : Rows → BookFault → Type 0
IsFirstFault rows CardNumber = (are_numbers_right rows ≡ false)
IsFirstFault rows OriginalWithoutAccount = IsTrue (are_numbers_right rows) × (have_paying_accounts rows ≡ false)
IsFirstFault rows OutOfRange = IsTrue (are_numbers_right rows) × IsTrue (have_paying_accounts rows) × ¬ AreBackingsInRange rows
IsFirstFault rows CardWithoutAccount = IsTrue (are_numbers_right rows) × IsTrue (have_paying_accounts rows) × AreBackingsInRange rows × (have_accounts rows ≡ false)

-- the number of a fault
abbrev pub number_of_book_fault : BookFault → ℕ
number_of_book_fault CardNumber = 1
number_of_book_fault OriginalWithoutAccount = 2
number_of_book_fault OutOfRange = 3
number_of_book_fault CardWithoutAccount = 4

-- the original is one of these
abbrev pub is_among : PaidFrom → KeptOriginal → Bool
is_among from.Anything k = true
is_among (from.Account id) k = is_from_account id k
is_among (from.Budget prefix) k = is_from_budget prefix k

-- What is asked of one row, so that all backings are in range: what is in an account's or a budget's row, and what stays paid
-- from there; and what stays paid from the budget of the prefix of an original that the budget paid, which may have no row.
abbrev pub IsRowInRange : Rows → RowKey → RowVal → Type 0
IsRowInRange rows (key.Card pan) row = Unit {0}
IsRowInRange rows (key.Velocity pan day) row = Unit {0}
IsRowInRange rows (key.Budget prefix) row = left_in (budget_in (Some row)) + stays (is_from_budget prefix) rows ≤ 10 ^ 15
IsRowInRange rows (key.Original identity) row =
    IfSome (kept_in (key.Original identity) row) (λ k. IsTrue (budget_paid (payment_of_outcome k.outcome)) → stays (is_from_budget (prefix_of k.card)) rows ≤ 10 ^ 15)
IsRowInRange rows (key.Account id) row = available_in (account_in (Some row)) + stays (is_from_account id) rows ≤ 10 ^ 15

-- each of these rows is in range
abbrev pub AreRowsInRange : Rows → List (RowKey × RowVal) → Type 0
AreRowsInRange rows = AllByRecursion (λ row. IsRowInRange rows row.0 row.1)
