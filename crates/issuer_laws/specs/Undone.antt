-- An original that is reversed whole.
use Rattle.std.specs.Prelude.{◌≡◌, ◌≤◌, ℕ, List}
use Rattle.std.specs.FinMap as map
use Rattle.issuer_words.specs.Words.{AccountId, Advice, Frame, OriginalKind, Pan, PanPrefix, Request, Reversal, Rows, Transaction, VelocityRow, account_in, available_in, budget_in, greatest_balance, identity_of, left_in, reply_of, rows_after_one, spent_in, velocity_in}
use Rattle.iso8583.specs.declared.original_kind.OriginalKind.TheVariants as kind
use Rattle.iso8583.specs.declared.reversal_scope.ReversalScope.TheVariants as scope
use Rattle.issuer_rows.specs.declared.row_key.RowKey.TheVariants as key
use Rattle.issuer_laws.specs.Messages.{request_frame, advice_frame, reversal_frame, HasAction, IsUnseen}

-- what was spent with a card on a day: nothing where there is no row
abbrev pub spent_on : Rows → Pan → List ℕ → VelocityRow
spent_on rows pan day = spent_in (velocity_in (map.get rows (key.Velocity pan day)))

-- every account, every budget and what was spent on every day are as before
pub record IsMoneyAsBefore (before after : Rows) : Type 0 where
  pub accounts : (id : AccountId) → map.get after (key.Account id) ≡ map.get before (key.Account id)
  pub budgets : (prefix : PanPrefix) → map.get after (key.Budget prefix) ≡ map.get before (key.Budget prefix)
  pub days : (pan : Pan) (day : List ℕ) → spent_on after pan day ≡ spent_on before pan day

-- no account's available and no budget's left is over 10^15
pub record IsWithinRange (rows : Rows) : Type 0 where
  pub accounts : (id : AccountId) → available_in (account_in (map.get rows (key.Account id))) ≤ greatest_balance
  pub budgets : (prefix : PanPrefix) → left_in (budget_in (map.get rows (key.Budget prefix))) ≤ greatest_balance

-- a full reversal that names this message of this kind, and has its card
pub record IsFullReversal (v : Reversal) (k : OriginalKind) (t : Transaction) : Type 0 where
  pub scope : v.scope ≡ scope.Full
  pub kind : v.original.kind ≡ k
  pub identity : v.original.identity ≡ identity_of t
  pub card : v.transaction.pan ≡ t.pan

-- a message whose identity wasn't seen is answered this action
abbrev pub IsAnsweredFirst : Rows → Transaction → Frame → ℕ → Type 0
IsAnsweredFirst rows t frame action = IsUnseen rows (identity_of t) × HasAction action (reply_of rows frame)

-- the reversal, right after the original, is answered 400
abbrev pub IsReversed : Rows → Frame → Reversal → Type 0
IsReversed rows original v = HasAction 400 (reply_of (rows_after_one rows original) (reversal_frame v))

-- the rows after the original and its reversal
abbrev pub rows_after_both : Rows → Frame → Reversal → Rows
rows_after_both rows original v = rows_after_one (rows_after_one rows original) (reversal_frame v)

-- a request answered 000, and its full reversal: where that is answered 400, the money is as before both
abbrev pub RequestIsUndone : Rows → Request → Reversal → Type 0
RequestIsUndone rows r v =
    IsAnsweredFirst rows r.transaction (request_frame r) 0
    → IsFullReversal v kind.Request r.transaction
    → IsReversed rows (request_frame r) v
    → IsMoneyAsBefore rows (rows_after_both rows (request_frame r) v)

-- it is answered 400 where no balance was over 10^15 before
abbrev pub RequestIsReversed : Rows → Request → Reversal → Type 0
RequestIsReversed rows r v =
    IsAnsweredFirst rows r.transaction (request_frame r) 0
    → IsFullReversal v kind.Request r.transaction
    → IsWithinRange rows
    → IsReversed rows (request_frame r) v

-- an advice answered 901, and its full reversal: where that is answered 400, the money is as before both
abbrev pub AdviceIsUndone : Rows → Advice → Reversal → Type 0
AdviceIsUndone rows a v =
    IsAnsweredFirst rows a.transaction (advice_frame a) 901
    → IsFullReversal v kind.Advice a.transaction
    → IsReversed rows (advice_frame a) v
    → IsMoneyAsBefore rows (rows_after_both rows (advice_frame a) v)

-- it is answered 400 where no balance was over 10^15 before
abbrev pub AdviceIsReversed : Rows → Advice → Reversal → Type 0
AdviceIsReversed rows a v =
    IsAnsweredFirst rows a.transaction (advice_frame a) 901
    → IsFullReversal v kind.Advice a.transaction
    → IsWithinRange rows
    → IsReversed rows (advice_frame a) v
