-- When a reversal can be done.
use Rattle.std.specs.Prelude.{◌≡◌, Bool, true, false, List, Option, Some, None, is_some}
use Rattle.std.specs.FinMap as map
use Rattle.issuer_words.specs.Words.{Frame, Identity, KeptOriginal, OriginalRow, Pan, Payer, Payment, Reversal, RowKey, Rows, budget_in, is_named, is_wrong_part, original_in, payment_of_outcome, prefix_of, reply_of, reversal_of_outcome, rows_after}
use Rattle.issuer_laws.specs.Again.{NoneForNow, WritesNothingAgain}
use Rattle.issuer_laws.specs.Covered.{AreDaysCovered}
use Rattle.issuer_laws.specs.Messages.{reversal_frame, HasAction}
use Rattle.book_laws.specs.CheckBook.{IsSound}

-- the budget of the card's prefix has a row, where the budget is the payer
abbrev pub has_budget : Rows → Pan → Payer → Bool
has_budget rows card (Payer.Account id) = true
has_budget rows card Payer.Budget = is_some (budget_in (map.get rows (RowKey.Budget (prefix_of card))))

abbrev pub is_budget_there : Rows → Pan → Option Payment → Bool
is_budget_there rows card None = true
is_budget_there rows card (Some payment) = has_budget rows card payment.payer

-- each original that a budget paid finds its row
abbrev pub HaveBudgets : Rows → Type 0
HaveBudgets rows =
    (identity : Identity) (k : KeptOriginal) → original_in (map.get rows (RowKey.Original identity)) ≡ Some (OriginalRow.Kept k) → is_budget_there rows k.card (payment_of_outcome k.outcome) ≡ true

-- nothing is wrong with the book, its days have what reversals take from them, and so have its budgets
pub record CanReverse (rows : Rows) : Type 0 where
  pub sound : IsSound rows
  pub days : AreDaysCovered rows
  pub budgets : HaveBudgets rows

-- the first reversal of an original that is posted: it has its card and its kind, and a part is one of its amount
pub record IsRightReversal (rows : Rows) (v : Reversal) : Type 0 where
  pub kept : KeptOriginal
  pub stands : original_in (map.get rows (RowKey.Original v.original.identity)) ≡ Some (OriginalRow.Kept kept)
  pub payment : Payment
  pub posted : payment_of_outcome kept.outcome ≡ Some payment
  pub unreversed : reversal_of_outcome kept.outcome ≡ None
  pub named : is_named v kept ≡ true
  pub part : is_wrong_part v.scope v.transaction.amount kept.amount ≡ false

-- it is done, whatever was decided before it
abbrev pub IsDone : Rows → List Frame → Reversal → Type 0
IsDone rows before v =
    CanReverse rows → IsRightReversal (rows_after rows before) v → HasAction 400 (reply_of (rows_after rows before) (reversal_frame v))

-- no reversal of a batch is refused for what may come later
abbrev pub RefusesNoneForNow : Rows → List Frame → Type 0
RefusesNoneForNow rows frames = CanReverse rows → NoneForNow rows frames

-- so a batch that is sent once more as repeats, its reversals too, writes nothing
abbrev pub IsAgainNothing : Rows → List Frame → Type 0
IsAgainNothing rows frames = CanReverse rows → WritesNothingAgain rows frames
