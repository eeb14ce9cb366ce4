-- What is kept of a request or an advice that was decided.
use Rattle.std.specs.Prelude.{ℕ, ◌≤◌, Option, Some, None, option_map}
use Rattle.iso8583.specs.declared.approval.Approval.{Approval}
use Rattle.iso8583.specs.declared.identity.Identity.{Identity}
use Rattle.iso8583.specs.declared.original_kind.OriginalKind.{OriginalKind}
use Rattle.iso8583.specs.declared.original_kind.OriginalKind.TheVariants as kind
use Rattle.iso8583.specs.declared.pan.Pan.{Pan}
use Rattle.iso8583.specs.declared.processing.Processing.{Processing}
use Rattle.issuer_rows.specs.declared.original_outcome.OriginalOutcome.{OriginalOutcome}
use Rattle.issuer_rows.specs.declared.original_outcome.OriginalOutcome.TheVariants.{Approved, Declined, Accepted, Acknowledged}
use Rattle.issuer_rows.specs.declared.payment.Payment.{Payment}
use Rattle.issuer_rows.specs.declared.settlement.Settlement.{Settlement}

-- card, amount and processing code of the message, and what became of it
pub record KeptOriginal : Type 0 where
  pub card : Pan
  pub amount : ℕ
  pub processing : Processing
  pub outcome : OriginalOutcome

-- a request or an advice
abbrev pub kind_of_outcome : OriginalOutcome → OriginalKind
kind_of_outcome (Approved code payment) = kind.Request
kind_of_outcome (Declined action reversal) = kind.Request
kind_of_outcome (Accepted payment) = kind.Advice
kind_of_outcome (Acknowledged action reversal) = kind.Advice

-- the action that it was answered
abbrev pub action_of_outcome : OriginalOutcome → ℕ
action_of_outcome (Approved code payment) = 0
action_of_outcome (Declined action reversal) = action
action_of_outcome (Accepted payment) = 901
action_of_outcome (Acknowledged action reversal) = action

-- the approval code of a request with action 000
abbrev pub approval_of_outcome : OriginalOutcome → Option Approval
approval_of_outcome (Approved code payment) = Some code
approval_of_outcome (Declined action reversal) = None
approval_of_outcome (Accepted payment) = None
approval_of_outcome (Acknowledged action reversal) = None

-- how it is paid, if it is posted
abbrev pub payment_of_outcome : OriginalOutcome → Option Payment
payment_of_outcome (Approved code payment) = Some payment
payment_of_outcome (Declined action reversal) = None
payment_of_outcome (Accepted payment) = Some payment
payment_of_outcome (Acknowledged action reversal) = None

-- the identity of its reversal, if it has one
abbrev pub reversal_of_outcome : OriginalOutcome → Option Identity
reversal_of_outcome (Approved code payment) = option_map (λ s. s.reversal) payment.settlement
reversal_of_outcome (Declined action reversal) = reversal
reversal_of_outcome (Accepted payment) = option_map (λ s. s.reversal) payment.settlement
reversal_of_outcome (Acknowledged action reversal) = reversal

-- how much of an amount stays paid: all of it until it is reversed
abbrev pub stay_of_settlement : ℕ → Option Settlement → ℕ
stay_of_settlement amount None = amount
stay_of_settlement amount (Some s) = s.stay

-- how much of an amount stays paid: nothing where it isn't posted
abbrev pub stay_of_payment : ℕ → Option Payment → ℕ
stay_of_payment amount None = 0
stay_of_payment amount (Some payment) = stay_of_settlement amount payment.settlement

-- how much of the original's amount stays paid
abbrev pub stay_of : KeptOriginal → ℕ
stay_of k = stay_of_payment k.amount (payment_of_outcome k.outcome)

-- no more than the amount stays paid
abbrev pub IsKept : KeptOriginal → Type 0
IsKept k = stay_of k ≤ k.amount

-- a payment, reversed
abbrev pub settled_payment : Payment → Identity → ℕ → Payment
settled_payment payment by stay = record payment { settlement = Some (record { reversal = by; stay = stay }) }

-- what became of an original that is reversed by this message, of which so much stays where it is posted
abbrev pub settled_outcome : OriginalOutcome → Identity → ℕ → OriginalOutcome
settled_outcome (Approved code payment) by stay = Approved code (settled_payment payment by stay)
settled_outcome (Declined action reversal) by stay = Declined action (Some by)
settled_outcome (Accepted payment) by stay = Accepted (settled_payment payment by stay)
settled_outcome (Acknowledged action reversal) by stay = Acknowledged action (Some by)

-- the original, reversed by this message
abbrev pub settled : KeptOriginal → Identity → ℕ → KeptOriginal
settled k by stay = record k { outcome = settled_outcome k.outcome by stay }
