-- Two messages, of which neither writes a row that the other needs.
use Rattle.std.specs.Prelude.{◌≡◌, [], ◌∷◌}
use Rattle.std.specs.FinMap as map
use Rattle.std.specs.List.{AllByRecursion}
use Rattle.issuer_words.specs.Words.{Frame, Rows, decision, reply_of, rows_after, rows_after_one, writes_of}
use Rattle.issuer_laws.specs.Parts.{IsIn}

-- decided on these rows, neither of them writes a row that the other needs
pub record ShareNoRow (rows : Rows) (one other : Frame) : Type 0 where
  pub by_one : AllByRecursion (λ w. IsIn w.0 (decision (map.get rows) other).needs → ⊥) (writes_of rows one)
  pub by_other : AllByRecursion (λ w. IsIn w.0 (decision (map.get rows) one).needs → ⊥) (writes_of rows other)

-- behind the other, each gets the reply that it gets before it; behind both the rows are the same in either order
pub record TakeAnyOrder (rows : Rows) (one other : Frame) : Type 0 where
  pub reply_to_one : reply_of (rows_after_one rows other) one ≡ reply_of rows one
  pub reply_to_other : reply_of (rows_after_one rows one) other ≡ reply_of rows other
  pub behind : rows_after rows (one ∷ other ∷ []) ≡ rows_after rows (other ∷ one ∷ [])
