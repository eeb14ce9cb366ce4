-- What pays for a message: its row was found, has as much, and is of its card's prefix.
use Rattle.std.proofs.Common.{◌≡◌, ℕ, ◌<◌, ◌≤◌, true, false, if◌then◌else◌, nat_lt, nat_le, ◌&&◌, ◌||◌, Bool, Option, Some, None, Result, Ok, Err, inl, inr, refl, sym, ap, subst, arith}
use Rattle.std.proofs.lemmas.Bool.{false≢true, or_cases}
use Rattle.std.proofs.lemmas.Bool.Decides.{nat_tests}
use Rattle.issuer_words.specs.Words.{AccountId, AccountRow, BudgetMode, BudgetRow, CardRow, Funds, Lookup, Pan, Transaction, account_funds, account_if_covered, account_in, account_of, advice_funds, balance_of, budget_by_mode, budget_funds, budget_in, by_mode, card_in, is_same_account, is_second, prefix_of, request_funds}
use Rattle.issuer_rows.specs.declared.budget_mode.BudgetMode.TheVariants as mode
use Rattle.issuer_rows.specs.declared.funds.Funds.TheVariants as funds
use Rattle.issuer_rows.specs.declared.row_key.RowKey.TheVariants as key
use Rattle.issuer_laws.proofs.Keys.{texts_same}
use Rattle.issuer_laws.specs.Parts.{IsIn, account_keys, second_key}

-- the funds' row stands in the book
abbrev pub IsFound : Lookup → Funds → Type 0
IsFound look (funds.Account id row) = account_in (look (key.Account id)) ≡ Some row
IsFound look (funds.Budget prefix row) = budget_in (look (key.Budget prefix)) ≡ Some row

-- a budget is that of the card's prefix
abbrev pub IsOfCard : Pan → Funds → Type 0
IsOfCard pan (funds.Account id row) = Unit {0}
IsOfCard pan (funds.Budget prefix row) = prefix ≡ prefix_of pan

-- an account is one of its card's two
abbrev pub IsOwn : Lookup → Pan → Funds → Type 0
IsOwn look pan (funds.Account id row) = IsIn (key.Account id) (account_keys (card_in (look (key.Card pan))))
IsOwn look pan (funds.Budget prefix row) = Unit {0}

-- funds that may pay for a message
pub record CanPay (look : Lookup) (t : Transaction) (paying : Funds) : Type 0 where
  pub found : IsFound look paying
  pub of_card : IsOfCard t.pan paying
  pub own : IsOwn look t.pan paying
  pub covered : t.amount ≤ balance_of paying

-- what a request is paid from, or refused for
abbrev pub IsSource : Lookup → Transaction → Result Funds ℕ → Type 0
IsSource look t (Ok paying) = CanPay look t paying
IsSource look t (Err action) = 0 < action

from_account : (look : Lookup) (t : Transaction) (id : AccountId) (account : AccountRow) → IsIn (key.Account id) (account_keys (card_in (look (key.Card t.pan)))) → account_in (look (key.Account id)) ≡ Some account → IsSource look t (account_funds t id account)
from_account look t id account own e =
    elim (nat_lt account.available t.amount) as (λ b. nat_lt account.available t.amount ≡ b → IsSource look t (if b then Err 116 else Ok (funds.Account id account))) [
      | true ↦ λ short. omega arith
      | false ↦ λ enough. record { found = e; of_card = tt; own = own; covered = grind (arith, nat_tests) }
    ] refl

not_over : (a b n m : ℕ) → (nat_lt a n || nat_lt b m) ≡ false → m ≤ b
not_over a b n m e = grind (arith, nat_tests)

from_budget : (look : Lookup) (t : Transaction) (budget : BudgetRow) → budget_in (look (key.Budget (prefix_of t.pan))) ≡ Some budget → IsSource look t (budget_funds t budget)
from_budget look t budget e =
    elim (nat_lt budget.cap t.amount || nat_lt budget.left t.amount) as (λ b. (nat_lt budget.cap t.amount || nat_lt budget.left t.amount) ≡ b → IsSource look t (if b then Err 907 else Ok (funds.Budget (prefix_of t.pan) budget))) [
      | true ↦ λ over. omega arith
      | false ↦ λ within. record { found = e; of_card = refl; own = tt; covered = not_over budget.cap budget.left t.amount t.amount within }
    ] refl

by_mode_source : (look : Lookup) (t : Transaction) (m : BudgetMode) (budget account : Result Funds ℕ) → IsSource look t budget → IsSource look t account → IsSource look t (by_mode m budget account)
by_mode_source look t mode.StandIn budget account b a = b
by_mode_source look t mode.Direct budget account b a = a

-- what pays for a request can pay
pub request_source : (look : Lookup) (t : Transaction) (id : AccountId) (account : AccountRow) (budget : Option BudgetRow) → IsIn (key.Account id) (account_keys (card_in (look (key.Card t.pan)))) → account_in (look (key.Account id)) ≡ Some account → budget_in (look (key.Budget (prefix_of t.pan))) ≡ budget → IsSource look t (request_funds t id account budget)
request_source look t id account None own e f = from_account look t id account own e
request_source look t id account (Some budget) own e f =
    by_mode_source look t budget.mode (budget_funds t budget) (account_funds t id account) (from_budget look t budget f) (from_account look t id account own e)

-- what an advice is paid from, if anything pays
abbrev pub IsCover : Lookup → Transaction → Option Funds → Type 0
IsCover look t (Some paying) = CanPay look t paying
IsCover look t None = Unit {0}

account_cover : (look : Lookup) (t : Transaction) (id : AccountId) (account : AccountRow) → IsIn (key.Account id) (account_keys (card_in (look (key.Card t.pan)))) → account_in (look (key.Account id)) ≡ Some account → IsCover look t (account_if_covered t id account)
account_cover look t id account own e =
    elim (nat_le t.amount account.available) as (λ b. nat_le t.amount account.available ≡ b → IsCover look t (if b then Some (funds.Account id account) else None)) [
      | true ↦ λ enough. record { found = e; of_card = tt; own = own; covered = grind (arith, nat_tests) }
      | false ↦ λ short. tt
    ] refl

both_within : (n a m b : ℕ) → (nat_le n a && nat_le m b) ≡ true → m ≤ b
both_within n a m b e = grind (arith, nat_tests)

mode_cover : (look : Lookup) (m : BudgetMode) (t : Transaction) (budget : BudgetRow) (else_so : Option Funds) → budget_in (look (key.Budget (prefix_of t.pan))) ≡ Some budget → IsCover look t else_so → IsCover look t (budget_by_mode m t budget else_so)
mode_cover look mode.StandIn t budget else_so f h =
    elim (nat_le t.amount budget.cap && nat_le t.amount budget.left) as (λ b. (nat_le t.amount budget.cap && nat_le t.amount budget.left) ≡ b → IsCover look t (if b then Some (funds.Budget (prefix_of t.pan) budget) else else_so)) [
      | true ↦ λ within. record { found = f; of_card = refl; own = tt; covered = both_within t.amount budget.cap t.amount budget.left within }
      | false ↦ λ over. h
    ] refl
mode_cover look mode.Direct t budget else_so f h = h

-- what pays for an advice can pay
pub advice_cover : (look : Lookup) (t : Transaction) (id : AccountId) (account : AccountRow) (budget : Option BudgetRow) → IsIn (key.Account id) (account_keys (card_in (look (key.Card t.pan)))) → account_in (look (key.Account id)) ≡ Some account → budget_in (look (key.Budget (prefix_of t.pan))) ≡ budget → IsCover look t (advice_funds t id account budget)
advice_cover look t id account None own e f = account_cover look t id account own e
advice_cover look t id account (Some budget) own e f = mode_cover look budget.mode t budget (account_if_covered t id account) f (account_cover look t id account own e)

pub same_account : (a b : AccountId) → is_same_account a b ≡ true → a ≡ b
same_account a b e = let texts = texts_same a.0 b.0 e in λ i. record { 0 = texts i }

second_own : (second : Option AccountId) (id : AccountId) → is_second second id ≡ true → IsIn (key.Account id) (second_key second)
second_own None id e = absurd (false≢true e)
second_own (Some second) id e = inl (ap (λ (a : AccountId). key.Account a) (same_account id second e))

named_own : (card : CardRow) (id found : AccountId) (b : Bool) → (is_same_account id card.accounts.first || is_second card.accounts.second id) ≡ b → (if b then Some id else None) ≡ Some found → IsIn (key.Account found) (account_keys (Some card))
named_own card id found true own e =
    let same : id ≡ found = cc in
    subst (λ (a : AccountId). IsIn (key.Account a) (account_keys (Some card))) same (elim (or_cases _ _ own) [
      | inl first ↦ inl (ap (λ (a : AccountId). key.Account a) (same_account id card.accounts.first first))
      | inr second ↦ inr (second_own card.accounts.second id second)
    ])
named_own card id found false own e = absurd (cc)

-- the account that a message is decided on is one of its card's two
pub account_own : (card : CardRow) (named : Option AccountId) (id : AccountId) → account_of card.accounts named ≡ Some id → IsIn (key.Account id) (account_keys (Some card))
account_own card None id e = let same : card.accounts.first ≡ id = cc in inl (ap (λ (a : AccountId). key.Account a) (sym same))
account_own card (Some named) id e = named_own card named id _ refl e
