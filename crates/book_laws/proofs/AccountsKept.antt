-- What a book had, it has where no account goes.
use Rattle.std.proofs.Common.{◌≡◌, true, Option, Some, None, refl}
use Rattle.std.proofs.lemmas.Bool.{and_parts}
use Rattle.std.specs.Cmp.Derive.{both_true}
use Rattle.issuer_words.specs.Words.{AccountId, Payer, Payment, RowVal, Rows, payment_of_outcome}
use Rattle.book_laws.specs.CheckBook.{has_account, has_payer, is_backed, has_paying_account, has_second, has_accounts}

-- no account goes
abbrev pub KeepsAllAccounts : Rows → Rows → Type 0
KeepsAllAccounts rows after = (id : AccountId) → has_account rows id ≡ true → has_account after id ≡ true

payer_stays : (rows after : Rows) → KeepsAllAccounts rows after → (p : Payer) → has_payer rows p ≡ true → has_payer after p ≡ true
payer_stays rows after keeps (Payer.Account id) h = keeps id h
payer_stays rows after keeps Payer.Budget h = refl

backed_stays : (rows after : Rows) → KeepsAllAccounts rows after → (p : Option Payment) → is_backed rows p ≡ true → is_backed after p ≡ true
backed_stays rows after keeps None h = refl
backed_stays rows after keeps (Some payment) h = payer_stays rows after keeps payment.payer h

pub paying_stays : (rows after : Rows) → KeepsAllAccounts rows after → (v : RowVal) → has_paying_account rows v ≡ true → has_paying_account after v ≡ true
paying_stays rows after keeps (RowVal.Card row) h = refl
paying_stays rows after keeps (RowVal.Velocity row) h = refl
paying_stays rows after keeps (RowVal.Budget row) h = refl
paying_stays rows after keeps (RowVal.Kept k) h = backed_stays rows after keeps (payment_of_outcome k.outcome) h
paying_stays rows after keeps (RowVal.Ahead mark) h = refl
paying_stays rows after keeps (RowVal.Account row) h = refl

second_stays : (rows after : Rows) → KeepsAllAccounts rows after → (first : AccountId) (second : Option AccountId) → has_second rows first second ≡ true → has_second after first second ≡ true
second_stays rows after keeps first None h = refl
second_stays rows after keeps first (Some second) h =
    let two = and_parts (has_account rows second) _ h in both_true (keeps second two.0) two.1

pub accounts_stay : (rows after : Rows) → KeepsAllAccounts rows after → (v : RowVal) → has_accounts rows v ≡ true → has_accounts after v ≡ true
accounts_stay rows after keeps (RowVal.Card row) h =
    let two = and_parts (has_account rows row.accounts.first) _ h in both_true (keeps row.accounts.first two.0) (second_stays rows after keeps row.accounts.first row.accounts.second two.1)
accounts_stay rows after keeps (RowVal.Velocity row) h = refl
accounts_stay rows after keeps (RowVal.Budget row) h = refl
accounts_stay rows after keeps (RowVal.Kept k) h = refl
accounts_stay rows after keeps (RowVal.Ahead mark) h = refl
accounts_stay rows after keeps (RowVal.Account row) h = refl
