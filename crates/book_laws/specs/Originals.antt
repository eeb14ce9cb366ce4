-- Originals that were decided: what a book's text says of them, and which of them can be.
use Rattle.std.specs.Prelude.{ℕ, ◌==◌, nat_le, if◌then◌else◌, List, [], ◌∷◌, Option, Some, None, option_map, option_and_then, Result, Ok, codes}
use Rattle.issuer_words.specs.Words.{AccountId, Approval, Identity, KeptOriginal, OriginalKind, OriginalOutcome, Pan, Payer, Payment, RowKey, RowVal, Settlement, action_of_outcome, approval_of_outcome, kind_of_outcome, payment_of_outcome, reversal_of_outcome, stay_of}
use Rattle.iso8583.specs.declared.original_kind.OriginalKind.TheVariants as kind
use Rattle.issuer_rows.specs.declared.original_outcome.OriginalOutcome.TheVariants.{Approved, Declined, Accepted, Acknowledged}
use Rattle.issuer_rows.specs.declared.payer.Payer.TheVariants as payer
use Rattle.issuer_rows.specs.declared.row_key.RowKey.TheVariants as key
use Rattle.issuer_rows.specs.declared.row_val.RowVal.TheVariants as val
use Rattle.serde_json.specs.Data.{Data}
use Rattle.book_laws.specs.Cards.{own_account}
use Rattle.book_laws.specs.Fields.{with_keys, optional_account_id_at, acquirer_at, action_at, amount_at, optional_approval_at, kind_at, paid_at, pan_at, processing_at, optional_identity_at, stamp_at, stan_at}
use Rattle.book_laws.specs.Steps.{◌>>=◌, or_fault}
use Rattle.book_laws.specs.declared.book_version.BookVersion.{BookVersion}
use Rattle.book_laws.specs.declared.book_version.BookVersion.TheVariants.{One, Two, Three}
use Rattle.book_laws.specs.declared.text_fault.TextFault.{TextFault}
use Rattle.book_laws.specs.declared.text_fault.TextFault.TheVariants.{Range}
use Rattle.book_laws.specs.declared.original_entry.OriginalEntry.{OriginalEntry}
use Rattle.book_laws.specs.declared.paid.Paid.{Paid}
use Rattle.book_laws.specs.declared.paid.Paid.TheVariants as paid
use Rattle.book_laws.specs.declared.part.Part.TheVariants as part

-- ---- what the text says

abbrev pub old_original_keys : List (List ℕ)
old_original_keys =
    codes "acquirer" ∷ codes "action" ∷ codes "amount" ∷ codes "approval" ∷ codes "kind" ∷ codes "paid" ∷ codes "pan"
    ∷ codes "processing" ∷ codes "reversed" ∷ codes "stamp" ∷ codes "stay" ∷ codes "trace" ∷ []

-- version 3 has the account that paid, too
abbrev pub original_keys : BookVersion → List (List ℕ)
original_keys One = old_original_keys
original_keys Two = old_original_keys
original_keys Three = codes "account" ∷ old_original_keys

-- the account that paid: versions 1 and 2 name none
abbrev pub paying_account_at : BookVersion → Data → Result (Option AccountId) TextFault
paying_account_at One entry = Ok None
paying_account_at Two entry = Ok None
paying_account_at Three entry = optional_account_id_at part.Originals (codes "account") entry

-- an identity, and what is said of its original
unfoldable pub original_entry_of : BookVersion → Data → Result (Identity × OriginalEntry) TextFault
original_entry_of version entry = do
  _ ← with_keys part.Originals (original_keys version) entry
  account ← paying_account_at version entry
  acquirer ← acquirer_at part.Originals (codes "acquirer") entry
  action ← action_at part.Originals (codes "action") entry
  amount ← amount_at part.Originals (codes "amount") entry
  approval ← optional_approval_at part.Originals (codes "approval") entry
  kind ← kind_at part.Originals (codes "kind") entry
  paid ← paid_at version part.Originals (codes "paid") entry
  pan ← pan_at part.Originals (codes "pan") entry
  processing ← processing_at part.Originals (codes "processing") entry
  reversed ← optional_identity_at part.Originals (codes "reversed") entry
  stamp ← stamp_at part.Originals (codes "stamp") entry
  stay ← amount_at part.Originals (codes "stay") entry
  stan ← stan_at part.Originals (codes "trace") entry
  Ok (
    record { acquirer = acquirer; stan = stan; stamp = stamp },
    record {
      account = account;
      action = action;
      amount = amount;
      approval = approval;
      kind = kind;
      paid = paid;
      pan = pan;
      processing = processing;
      reversed = reversed;
      stay = stay;
    },
  )

-- ---- which can be, and what is kept of it

-- What paid, if anything did: an account is named exactly where one paid. In versions 1 and 2 the card did; its money is
-- its own account's now.
abbrev pub payer_of : Paid → Option AccountId → Pan → Option (Option Payer)
payer_of paid.Nothing None pan = Some None
payer_of paid.Card None pan = Some (Some (payer.Account (own_account pan)))
payer_of paid.Account (Some id) pan = Some (Some (payer.Account id))
payer_of paid.Budget None pan = Some (Some payer.Budget)
payer_of paid.Nothing (Some id) pan = None
payer_of paid.Card (Some id) pan = None
payer_of paid.Account None pan = None
payer_of paid.Budget (Some id) pan = None

-- how it was reversed, if it was: so much stays
abbrev pub settlement_of : ℕ → Option Identity → Option Settlement
settlement_of stay None = None
settlement_of stay (Some reversal) = Some (record { reversal = reversal; stay = stay })

-- paid by this: the whole amount stays until a reversal, and no more than that from then on
abbrev pub payment_by : Payer → ℕ → ℕ → Option Settlement → Option Payment
payment_by by amount stay None = if stay == amount then Some (record { payer = by; settlement = None }) else None
payment_by by amount stay (Some s) = if nat_le s.stay amount then Some (record { payer = by; settlement = Some s }) else None

-- how it is paid, if anything paid: nothing stays where nothing did
abbrev pub payment_of : Option Payer → ℕ → ℕ → Option Settlement → Option (Option Payment)
payment_of None amount stay settlement = if stay == 0 then Some None else None
payment_of (Some by) amount stay settlement = option_map Some (payment_by by amount stay settlement)

-- a posted original is a request with action 000, which has an approval code, or an advice with action 901, which has none
abbrev pub posted : OriginalKind → ℕ → Option Approval → Payment → Option OriginalOutcome
posted kind.Request action (Some code) payment = if action == 0 then Some (Approved code payment) else None
posted kind.Request action None payment = None
posted kind.Advice action (Some code) payment = None
posted kind.Advice action None payment = if action == 901 then Some (Accepted payment) else None

-- an original that isn't posted has another action, and no approval code
abbrev pub unposted : OriginalKind → ℕ → Option Approval → Option Identity → Option OriginalOutcome
unposted kind.Request action (Some code) reversed = None
unposted kind.Request action None reversed = if action == 0 then None else Some (Declined action reversed)
unposted kind.Advice action (Some code) reversed = None
unposted kind.Advice action None reversed = if action == 901 then None else Some (Acknowledged action reversed)

-- it is posted exactly where something paid
abbrev pub outcome_by : OriginalEntry → Option Payment → Option OriginalOutcome
outcome_by e None = unposted e.kind e.action e.approval e.reversed
outcome_by e (Some payment) = posted e.kind e.action e.approval payment

-- what was paid for it
abbrev pub paid_for : OriginalEntry → Option Payer → Option (Option Payment)
paid_for e by = payment_of by e.amount e.stay (settlement_of e.stay e.reversed)

-- what became of the original
abbrev pub outcome_of : OriginalEntry → Option OriginalOutcome
outcome_of e = option_and_then (outcome_by e) (option_and_then (paid_for e) (payer_of e.paid e.account e.pan))

-- what is kept of the original, if it can be
abbrev pub kept_of : OriginalEntry → Option KeptOriginal
kept_of e = option_map (λ outcome. record { card = e.pan; amount = e.amount; processing = e.processing; outcome = outcome }) (outcome_of e)

-- an original's row
unfoldable pub original_of : BookVersion → Data → Result (RowKey × RowVal) TextFault
original_of version entry = do
  found ← original_entry_of version entry
  kept ← or_fault Range (kept_of found.1)
  Ok (key.Original found.0, val.Kept kept)

-- ---- and back

-- the word for what paid
abbrev pub paid_by : Payer → Paid
paid_by (payer.Account id) = paid.Account
paid_by payer.Budget = paid.Budget

abbrev pub paid_of_payment : Option Payment → Paid
paid_of_payment None = paid.Nothing
paid_of_payment (Some payment) = paid_by payment.payer

-- the account that paid, if one did
abbrev pub account_by : Payer → Option AccountId
account_by (payer.Account id) = Some id
account_by payer.Budget = None

abbrev pub account_of_payment : Option Payment → Option AccountId
account_of_payment None = None
account_of_payment (Some payment) = account_by payment.payer

-- what version 3 says of an original
abbrev pub entry_of_kept : KeptOriginal → OriginalEntry
entry_of_kept k = record {
  account = account_of_payment (payment_of_outcome k.outcome);
  action = action_of_outcome k.outcome;
  amount = k.amount;
  approval = approval_of_outcome k.outcome;
  kind = kind_of_outcome k.outcome;
  paid = paid_of_payment (payment_of_outcome k.outcome);
  pan = k.card;
  processing = k.processing;
  reversed = reversal_of_outcome k.outcome;
  stay = stay_of k;
}
