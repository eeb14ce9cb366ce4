-- Bodies of right lengths, by place and by recursion.
use Rattle.std.proofs.Common.{◌≡◌, ℕ, ◌≤◌, List, [], ◌∷◌, ◌++◌, length, refl}
use Rattle.std.specs.Prelude.{All}
use Rattle.std.specs.Global.{Vec}
use Rattle.std.specs.List.{AllByRecursion, flat_map}
use Rattle.std.proofs.lemmas.List.{length-map}
use Rattle.std.proofs.lemmas.List.Folds.{flat_map-map}
use Rattle.std.proofs.lemmas.List.Elements.{All-from_recursion, recursion_from_All}
use Rattle.file_laws.specs.Files.{IsBody, AreBodies, framed, head_text, batch_text}
use Rattle.file_laws.specs.Reading.{batch_magic}
use Rattle.file_batch.specs.Bodies.{bytes_of}

of_bytes : (bodies : List (Vec ℕ)) → AllByRecursion (λ body. IsBody body.items) bodies → AllByRecursion IsBody (bytes_of bodies)
of_bytes [] all = tt
of_bytes (body ∷ bodies) all = (all.0, of_bytes bodies all.1)

of_vecs : (bodies : List (Vec ℕ)) → AllByRecursion IsBody (bytes_of bodies) → AllByRecursion (λ body. IsBody body.items) bodies
of_vecs [] all = tt
of_vecs (body ∷ bodies) all = (all.0, of_vecs bodies all.1)

pub are_bodies : (bodies : List (Vec ℕ)) → All (λ body. IsBody body.items) bodies → AllByRecursion IsBody (bytes_of bodies)
are_bodies bodies all = of_bytes bodies (recursion_from_All (λ body. IsBody body.items) bodies all)

pub are_vecs : (bodies : List (Vec ℕ)) → AllByRecursion IsBody (bytes_of bodies) → All (λ body. IsBody body.items) bodies
are_vecs bodies all = All-from_recursion (λ body. IsBody body.items) bodies (of_vecs bodies all)

-- so many bodies, each of a right length, are bodies that a file can have
pub all_are_bodies : (bodies : List (Vec ℕ)) → length bodies ≤ 65536 → All (λ body. IsBody body.items) bodies → AreBodies (bytes_of bodies)
all_are_bodies bodies few all = (rw length-map few, are_bodies bodies all)

-- the text of bodies as they are handed in
pub text_of_vecs : (bodies : List (Vec ℕ)) → batch_text (bytes_of bodies) ≡ head_text batch_magic (length bodies) ++ flat_map (λ body. framed body.items) bodies
text_of_vecs bodies = rw (length-map, flat_map-map) refl
