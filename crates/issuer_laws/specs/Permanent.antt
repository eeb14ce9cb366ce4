-- Originals that are kept for good.
use Rattle.std.specs.Prelude.{◌≡◌, ◌⊎◌, ℕ, List, Some, None}
use Rattle.std.specs.FinMap as map
use Rattle.issuer_words.specs.Words.{Frame, Identity, KeptOriginal, OriginalRow, RowKey, Rows, action_of_outcome, approval_of_outcome, kind_of_outcome, original_in, reversal_of_outcome, rows_after, settled}

-- the original of this identity is kept so
abbrev pub IsKeptAt : Rows → Identity → KeptOriginal → Type 0
IsKeptAt rows identity k = original_in (map.get rows (RowKey.Original identity)) ≡ Some (OriginalRow.Kept k)

-- it had no reversal, and one message reverses it
pub record IsReversedOnce (before after : KeptOriginal) : Type 0 where
  pub unreversed : reversal_of_outcome before.outcome ≡ None
  pub by : Identity
  pub stay : ℕ
  pub reversed : after ≡ settled before by stay

-- what may become of an original that is kept: it stays as it is, or it is reversed, once
abbrev pub Continues : KeptOriginal → KeptOriginal → Type 0
Continues before after = (after ≡ before) ⊎ IsReversedOnce before after

-- an original that is kept is still there after these bodies, as it was or reversed once
abbrev pub StaysKept : Rows → Identity → KeptOriginal → List Frame → Type 0
StaysKept rows identity k frames =
    IsKeptAt rows identity k → (later : KeptOriginal) × IsKeptAt (rows_after rows frames) identity later × Continues k later

-- what never changes of an original that is kept
pub record IsSameOriginal (before after : KeptOriginal) : Type 0 where
  pub card : after.card ≡ before.card
  pub amount : after.amount ≡ before.amount
  pub processing : after.processing ≡ before.processing
  pub kind : kind_of_outcome after.outcome ≡ kind_of_outcome before.outcome
  pub action : action_of_outcome after.outcome ≡ action_of_outcome before.outcome
  pub approval : approval_of_outcome after.outcome ≡ approval_of_outcome before.outcome
