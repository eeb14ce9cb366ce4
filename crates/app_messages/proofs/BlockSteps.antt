-- How many bodies blocks have.
use Rattle.std.proofs.Common.{◌≡◌, ℕ, ◌+◌, ◌*◌, ◌≤◌, List, [], ◌∷◌, length, arith}
use Rattle.std.specs.List.{AllByRecursion}
use Rattle.std.proofs.lemmas.List.{length-append}
use Rattle.file_laws.specs.Files.{AreBodies}
use Rattle.file_listing.specs.BlockText.{all_bodies}

-- no more than 65,536 in each
pub bodies_at_most : (blocks : List (List (List ℕ))) → AllByRecursion AreBodies blocks → length (all_bodies blocks) ≤ 65536 * length blocks
bodies_at_most [] are = omega arith
bodies_at_most (block ∷ blocks) are = omega (arith, length-append block (all_bodies blocks), are.0.0, bodies_at_most blocks are.1)

pub bodies_of_more : (block : List (List ℕ)) (blocks : List (List (List ℕ))) → length (all_bodies (block ∷ blocks)) ≡ length block + length (all_bodies blocks)
bodies_of_more block blocks = length-append block (all_bodies blocks)
