-- An original that is reversed a second time.
use Rattle.std.specs.Prelude.{◌≡◌, ◌≢◌, List, []}
use Rattle.issuer_words.specs.Words.{Frame, Reversal, Rows, identity_of, reply_of, rows_after, rows_after_one, writes_of}
use Rattle.issuer_laws.specs.Messages.{reversal_frame, HasAction}

-- both name the same original, of the same kind and card, and are messages of their own
pub record IsAnotherReversal (first second : Reversal) : Type 0 where
  pub original : second.original.identity ≡ first.original.identity
  pub kind : second.original.kind ≡ first.original.kind
  pub card : second.transaction.pan ≡ first.transaction.pan
  pub own : identity_of second.transaction ≢ identity_of first.transaction

-- 913, duplicate transmission, and nothing is written
abbrev pub IsDuplicate : Rows → Reversal → Type 0
IsDuplicate rows v = HasAction 913 (reply_of rows (reversal_frame v)) × (writes_of rows (reversal_frame v) ≡ [])

-- a reversal that is answered 400, whatever came between, and another one of the same original
abbrev pub SecondIsDuplicate : Rows → Reversal → List Frame → Reversal → Type 0
SecondIsDuplicate rows first between second =
    HasAction 400 (reply_of rows (reversal_frame first))
    → IsAnotherReversal first second
    → IsDuplicate (rows_after (rows_after_one rows (reversal_frame first)) between) second
