-- Originals of versions 1 and 2: what stays paid from a card stays paid from its own account.
use Rattle.std.proofs.Common.{◌≡◌, ℕ, ◌==◌, Bool, true, false, cond, ◌&&◌, nat_le, Option, Some, None, option_and_then, option_map, refl, sym, ap, ◌∙◌}
use Rattle.std.proofs.lemmas.Option.{cond_some, same_Some}
use Rattle.std.proofs.lemmas.Bool.Decides.{Decides-eqb}
use Rattle.issuer_words.specs.Words.{AccountId, Approval, Identity, KeptOriginal, OriginalKind, OriginalOutcome, Pan, Payer, Payment, Settlement, account_paid, is_from_account, payment_of_outcome, stay_if, stay_of_payment, stay_of_settlement, text_eq}
use Rattle.iso8583.specs.declared.original_kind.OriginalKind.TheVariants as kind
use Rattle.issuer_rows.specs.declared.payer.Payer.TheVariants as payer
use Rattle.book_laws.specs.Cards.{own_account}
use Rattle.book_laws.specs.Originals.{settlement_of, payment_by, payment_of, posted, unposted, outcome_by, paid_for, payer_of, outcome_of, kept_of}
use Rattle.book_laws.specs.declared.original_entry.OriginalEntry.{OriginalEntry}
use Rattle.book_laws.specs.declared.paid.Paid.{Paid}
use Rattle.book_laws.specs.declared.paid.Paid.TheVariants as paid
use Rattle.book_changes.specs.Migration.{is_card}

-- a value that is there behind two steps
both_there : {A B : Type 0} (o : Option A) (f : A → Option B) (y : B) → option_and_then f o ≡ Some y → (x : A) × (o ≡ Some x) × (f x ≡ Some y)
both_there (Some x) f y h = (x, refl, h)
both_there None f y h = absurd cc

there_mapped : {A B : Type 0} (o : Option A) (f : A → B) (y : B) → option_map f o ≡ Some y → (x : A) × (o ≡ Some x) × (f x ≡ y)
there_mapped (Some x) f y h = (x, refl, cc)
there_mapped None f y h = absurd cc

if_else : {A : Type 0} (b : Bool) (x y : A) → cond b None (Some x) ≡ Some y → x ≡ y
if_else true x y h = absurd cc
if_else false x y h = cc

-- ---- payments

posted_so : (k : OriginalKind) (action : ℕ) (approval : Option Approval) (payment : Payment) (o : OriginalOutcome) → posted k action approval payment ≡ Some o → payment_of_outcome o ≡ Some payment
posted_so kind.Request action (Some code) payment o h = sym (ap payment_of_outcome (cond_some (action == 0) _ o h).1)
posted_so kind.Request action None payment o h = absurd cc
posted_so kind.Advice action (Some code) payment o h = absurd cc
posted_so kind.Advice action None payment o h = sym (ap payment_of_outcome (cond_some (action == 901) _ o h).1)

unposted_so : (k : OriginalKind) (action : ℕ) (approval : Option Approval) (reversed : Option Identity) (o : OriginalOutcome) → unposted k action approval reversed ≡ Some o → payment_of_outcome o ≡ None
unposted_so kind.Request action (Some code) reversed o h = absurd cc
unposted_so kind.Request action None reversed o h = sym (ap payment_of_outcome (if_else (action == 0) _ o h))
unposted_so kind.Advice action (Some code) reversed o h = absurd cc
unposted_so kind.Advice action None reversed o h = sym (ap payment_of_outcome (if_else (action == 901) _ o h))

-- what is paid for an original is what became of it
outcome_so : (e : OriginalEntry) (payment : Option Payment) (o : OriginalOutcome) → outcome_by e payment ≡ Some o → payment_of_outcome o ≡ payment
outcome_so e None o h = unposted_so e.kind e.action e.approval e.reversed o h
outcome_so e (Some payment) o h = posted_so e.kind e.action e.approval payment o h

-- so much stays of what is paid
paid_so : (by : Payer) (amount stay : ℕ) (reversed : Option Identity) (p : Payment) → payment_by by amount stay (settlement_of stay reversed) ≡ Some p
    → (p.payer ≡ by) × (stay_of_settlement amount p.settlement ≡ stay)
paid_so by amount stay None p h =
    let q = cond_some (stay == amount) _ p h in
    (sym (ap (λ (x : Payment). x.payer) q.1), sym (ap (λ (x : Payment). stay_of_settlement amount x.settlement) q.1) ∙ sym ((Decides-eqb stay amount).0 q.0))
paid_so by amount stay (Some reversal) p h =
    let q = cond_some (nat_le stay amount) _ p h in
    (sym (ap (λ (x : Payment). x.payer) q.1), sym (ap (λ (x : Payment). stay_of_settlement amount x.settlement) q.1))

-- ---- what stays of an original, by what paid

-- what stays paid from an account of a payment
abbrev from_account : AccountId → ℕ → Option Payment → ℕ
from_account id amount payment = cond (account_paid id payment) (stay_of_payment amount payment) 0

from_card : (pan : Pan) (card : Pan) (amount stay : ℕ) (reversed : Option Identity) (payment : Option Payment)
    → payment_of (Some (payer.Account (own_account card))) amount stay (settlement_of stay reversed) ≡ Some payment
    → from_account (own_account pan) amount payment ≡ cond (text_eq card.0 pan.0) stay 0
from_card pan card amount stay reversed payment h =
    let q = there_mapped (payment_by (payer.Account (own_account card)) amount stay (settlement_of stay reversed)) Some payment h in
    let s = paid_so (payer.Account (own_account card)) amount stay reversed q.0 q.1 in
    sym (ap (from_account (own_account pan) amount) q.2)
    ∙ ap (λ (by : Payer). cond (account_paid (own_account pan) (Some (record { payer = by; settlement = q.0.settlement }))) (stay_of_settlement amount q.0.settlement) 0) s.0
    ∙ ap (λ n. cond (text_eq card.0 pan.0) n 0) s.1

budget_paid : (amount stay : ℕ) (settlement : Option Settlement) (p : Payment) → payment_by payer.Budget amount stay settlement ≡ Some p → p.payer ≡ payer.Budget
budget_paid amount stay None p h = sym (ap (λ (x : Payment). x.payer) (cond_some (stay == amount) _ p h).1)
budget_paid amount stay (Some s) p h = sym (ap (λ (x : Payment). x.payer) (cond_some (nat_le s.stay amount) _ p h).1)

from_budget : (pan : Pan) (amount stay : ℕ) (settlement : Option Settlement) (payment : Option Payment)
    → payment_of (Some payer.Budget) amount stay settlement ≡ Some payment → from_account (own_account pan) amount payment ≡ 0
from_budget pan amount stay settlement payment h =
    let q = there_mapped (payment_by payer.Budget amount stay settlement) Some payment h in
    sym (ap (from_account (own_account pan) amount) q.2)
    ∙ ap (λ (by : Payer). cond (account_paid (own_account pan) (Some (record { payer = by; settlement = q.0.settlement }))) (stay_of_settlement amount q.0.settlement) 0) (budget_paid amount stay settlement q.0 q.1)

from_nothing : (pan : Pan) (amount stay : ℕ) (settlement : Option Settlement) (payment : Option Payment)
    → payment_of None amount stay settlement ≡ Some payment → from_account (own_account pan) amount payment ≡ 0
from_nothing pan amount stay settlement payment h = sym (ap (from_account (own_account pan) amount) (cond_some (stay == 0) None payment h).1)

-- by the word for what paid, where no account is named
stays_so : (word : Paid) (account : Option AccountId) (card pan : Pan) (amount stay : ℕ) (reversed : Option Identity) (by : Option Payer) (payment : Option Payment)
    → account ≡ None → payer_of word account card ≡ Some by → payment_of by amount stay (settlement_of stay reversed) ≡ Some payment
    → from_account (own_account pan) amount payment ≡ cond (is_card word && text_eq card.0 pan.0) stay 0
stays_so paid.Nothing None card pan amount stay reversed by payment none h g =
    from_nothing pan amount stay (settlement_of stay reversed) payment (ap (λ (b : Option Payer). payment_of b amount stay (settlement_of stay reversed)) (same_Some None by h) ∙ g)
stays_so paid.Card None card pan amount stay reversed by payment none h g =
    from_card pan card amount stay reversed payment (ap (λ (b : Option Payer). payment_of b amount stay (settlement_of stay reversed)) (same_Some (Some (payer.Account (own_account card))) by h) ∙ g)
stays_so paid.Account None card pan amount stay reversed by payment none h g = absurd cc
stays_so paid.Budget None card pan amount stay reversed by payment none h g =
    from_budget pan amount stay (settlement_of stay reversed) payment (ap (λ (b : Option Payer). payment_of b amount stay (settlement_of stay reversed)) (same_Some (Some payer.Budget) by h) ∙ g)
stays_so word (Some id) card pan amount stay reversed by payment none h g = absurd cc

-- what stays paid of an original that is kept
pub kept_stays : (e : OriginalEntry) (k : KeptOriginal) (pan : Pan) → e.account ≡ None → kept_of e ≡ Some k
    → stay_if (is_from_account (own_account pan)) (Some k) ≡ cond (is_card e.paid && text_eq e.pan.0 pan.0) e.stay 0
kept_stays e k pan none h =
    let made = there_mapped (outcome_of e) (λ outcome. record { card = e.pan; amount = e.amount; processing = e.processing; outcome = outcome }) k h in
    let by = both_there (option_and_then (paid_for e) (payer_of e.paid e.account e.pan)) (outcome_by e) made.0 made.1 in
    let payer = both_there (payer_of e.paid e.account e.pan) (paid_for e) by.0 by.1 in
    let settled = outcome_so e by.0 made.0 by.2 in
    sym (ap (λ (x : KeptOriginal). stay_if (is_from_account (own_account pan)) (Some x)) made.2)
    ∙ ap (from_account (own_account pan) e.amount) settled
    ∙ stays_so e.paid e.account e.pan pan e.amount e.stay e.reversed payer.0 by.0 none payer.1 payer.2
