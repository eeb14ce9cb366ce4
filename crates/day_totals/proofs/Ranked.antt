-- The order of totals.
use Rattle.std.proofs.Common.{◌+◌, ◌<◌, ◌∙◌, ℕ, Bool, List, [], ◌∷◌, IsSortedBy, arith, length, map}
use Rattle.std.proofs.lemmas.Cmp.{back_total, nat_cmp_total, nat_list_cmp_total, on_total, then_total}
use Rattle.std.proofs.lemmas.List.{get_or-map, length-map}
use Rattle.std.specs.Cmp.{IsTotalOrder}
use Rattle.day_totals.specs.Day.{rank}

-- ranks are an order
pub rank_total : IsTotalOrder rank
rank_total = then_total (back_total (on_total (λ (t : List ℕ × ℕ). t.1) nat_cmp_total)) (on_total (λ (t : List ℕ × ℕ). t.0) nat_list_cmp_total)

-- a list that is sorted by what its elements stand for
pub sorted_map : {A B : Type 0} (f : A → B) (lt : B → B → Bool) (xs : List A) → IsSortedBy (λ a b. lt (f a) (f b)) xs → IsSortedBy lt (map f xs)
sorted_map f lt [] s k d a b = absurd (omega arith)
sorted_map f lt (x ∷ xs) s k d a b =
    let within : k + 1 < length (x ∷ xs) = omega (arith, length-map (x ∷ xs) f) in
    (λ j. lt (get_or-map f (x ∷ xs) (k + 1) x d within j) (get_or-map f (x ∷ xs) k x d (omega arith) j)) ∙ s k x a within
