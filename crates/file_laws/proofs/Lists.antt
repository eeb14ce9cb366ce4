-- Lists one behind another.
use Rattle.std.proofs.Common.{List, [], ◌∷◌, ◌++◌, ◌≡◌, ℕ, ap, ◌∙◌}
use Rattle.std.specs.List.{AllByRecursion}
use Rattle.std.proofs.lemmas.List.{append-nil}
use Rattle.std.proofs.lemmas.List.Concat.{flat_map-append}
use Rattle.file_laws.specs.Files.{all_bodies}

-- what holds of some and of others holds of all of them
pub each_more : {A : Type 0} (P : A → Type 0) (some more : List A) → AllByRecursion P some → AllByRecursion P more → AllByRecursion P (some ++ more)
each_more P [] more h k = k
each_more P (item ∷ some) more h k = (h.0, each_more P some more h.1 k)

-- the bodies of entries, and those of one more
pub bodies_more : (entries : List (List (List ℕ))) (bodies : List (List ℕ)) → all_bodies (entries ++ bodies ∷ []) ≡ all_bodies entries ++ bodies
bodies_more entries bodies = flat_map-append (λ (entry : List (List ℕ)). entry) entries (bodies ∷ []) ∙ ap (λ (last : List (List ℕ)). all_bodies entries ++ last) (append-nil bodies)
