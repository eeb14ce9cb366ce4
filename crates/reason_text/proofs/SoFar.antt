-- Lines of the first items of a list.
use Rattle.std.proofs.Common.{◌≡◌, ℕ, zero, suc, ◌+◌, List, [], ◌∷◌, ◌++◌, take, Some, slice_get, sym, ap, ◌∙◌, append_assoc, add-one}
use Rattle.std.proofs.lemmas.List.{append-nil}
use Rattle.std.specs.List.{flat_map}
use Rattle.std.proofs.lemmas.Option.{same_Some, none-some}

so_far : {X : Type 0} (f : X → List ℕ) (xs : List X) (i : ℕ) (x : X) → slice_get xs i ≡ Some x → flat_map f (take (suc i) xs) ≡ flat_map f (take i xs) ++ f x
so_far f [] i x at = absurd (none-some x at)
so_far f (y ∷ xs) zero x at = append-nil (f y) ∙ ap f (same_Some y x at)
so_far f (y ∷ xs) (suc i) x at = ap (λ rest. f y ++ rest) (so_far f xs i x at) ∙ sym (append_assoc (f y) (flat_map f (take i xs)) (f x))

-- the lines of the first items, and that of the next one
pub one_more : {X : Type 0} (f : X → List ℕ) (xs : List X) (i : ℕ) (x : X) → slice_get xs i ≡ Some x → flat_map f (take (i + 1) xs) ≡ flat_map f (take i xs) ++ f x
one_more f xs i x at = rw add-one (so_far f xs i x at)

-- the line of the next item is appended behind those of the first ones
pub appended : {X : Type 0} (f : X → List ℕ) (xs : List X) (i : ℕ) (x : X) (before old new : List ℕ) → slice_get xs i ≡ Some x
    → old ≡ before ++ flat_map f (take i xs) → new ≡ old ++ f x → new ≡ before ++ flat_map f (take (i + 1) xs)
appended f xs i x before old new at so_far more =
    more ∙ ap (λ (text : List ℕ). text ++ f x) so_far ∙ append_assoc before (flat_map f (take i xs)) (f x) ∙ ap (λ (text : List ℕ). before ++ text) (sym (one_more f xs i x at))
