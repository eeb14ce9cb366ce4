-- Rows that are written one after another.
use Rattle.std.proofs.Common.{◌≡◌, ℕ, suc, ◌+◌, List, ◌∷◌, drop, slice_get, Some, sym, ap, ◌∙◌, add-one}
use Rattle.std.proofs.Math.Seq.{drop-cons}
use Rattle.std.proofs.lemmas.Option.{slice_get_within, get_or_from_slice_get}
use Rattle.std.specs.FinMap as map
use Rattle.issuer_rows.specs.Fold.{Rows, overlay}
use Rattle.issuer_rows.specs.Plan.{Writes}
use Rattle.issuer_rows.specs.declared.row_key.RowKey.{RowKey}
use Rattle.issuer_rows.specs.declared.row_val.RowVal.{RowVal}

-- what is left begins with the item at this place
pub left_at : {X : Type 0} (xs : List X) (i : ℕ) (x : X) → slice_get xs i ≡ Some x → drop i xs ≡ x ∷ drop (i + 1) xs
left_at xs i x at = rw add-one (drop-cons xs i x (slice_get_within xs i x at) ∙ ap (λ y. y ∷ drop (suc i) xs) (get_or_from_slice_get xs i x x at))

-- the rows that are left are written after the one at this place
pub overlay-drop : (rows : Rows) (writes : Writes) (i : ℕ) (w : RowKey × RowVal) → slice_get writes i ≡ Some w
    → overlay (map.insert rows w.0 w.1) (drop (i + 1) writes) ≡ overlay rows (drop i writes)
overlay-drop rows writes i w at = sym (ap (overlay rows) (left_at writes i w at))
