-- Parts of lists, one item after another.
use Rattle.std.proofs.Common.{◌≡◌, ◌≢◌, ℕ, zero, suc, ◌+◌, ◌<◌, ◌==◌, true, false, if◌then◌else◌, List, [], ◌∷◌, length, drop, map, zip, Some, slice_get, refl, ap, arith, add-one}
use Rattle.std.proofs.lemmas.Bool.Decides.{nat_tests}
use Rattle.std.proofs.lemmas.Option.{none-some, same_Some}
use Rattle.std.specs.List.{AllByRecursion}
use Rattle.issuer_laws.specs.Parts.{bodies, of_part}
use Rattle.issuer_words.specs.Words.{Frame}

module _ {A : Type 0} where
  zip_left_suc : (parts : List ℕ) (all : List A) (i part : ℕ) (a : A) → slice_get parts i ≡ Some part → slice_get all i ≡ Some a → drop i (zip parts all) ≡ (part, a) ∷ drop (suc i) (zip parts all)
  zip_left_suc [] all i part a h g = absurd (none-some part h)
  zip_left_suc (p ∷ parts) [] i part a h g = absurd (none-some a g)
  zip_left_suc (p ∷ parts) (x ∷ all) zero part a h g = λ j. (same_Some p part h j, same_Some x a g j) ∷ zip parts all
  zip_left_suc (p ∷ parts) (x ∷ all) (suc i) part a h g = zip_left_suc parts all i part a h g

  -- what is left begins with the item at this place and its part
  pub zip_left : (parts : List ℕ) (all : List A) (i part : ℕ) (a : A) → slice_get parts i ≡ Some part → slice_get all i ≡ Some a → drop i (zip parts all) ≡ (part, a) ∷ drop (i + 1) (zip parts all)
  zip_left parts all i part a h g = rw add-one (zip_left_suc parts all i part a h g)

  -- nothing is left behind the last
  pub zip_done : (parts : List ℕ) (all : List A) → length parts ≡ length all → drop (length all) (zip parts all) ≡ []
  zip_done [] [] e = refl
  zip_done [] (x ∷ all) e = refl
  zip_done (p ∷ parts) [] e = absurd (omega arith)
  zip_done (p ∷ parts) (x ∷ all) e = zip_done parts all (omega arith)

  -- an item of the part
  pub part_own : (p : ℕ) (q : ℕ) (a : A) (ms : List (ℕ × A)) → q ≡ p → of_part p ((q, a) ∷ ms) ≡ a ∷ of_part p ms
  part_own p q a ms e =
      elim (q == p) as (λ b. (q == p) ≡ b → (if b then a ∷ of_part p ms else of_part p ms) ≡ a ∷ of_part p ms) [
        | true ↦ λ _. refl
        | false ↦ λ other. absurd (grind (arith, nat_tests))
      ] refl

  -- one of another part
  pub part_other : (p : ℕ) (q : ℕ) (a : A) (ms : List (ℕ × A)) → q ≢ p → of_part p ((q, a) ∷ ms) ≡ of_part p ms
  part_other p q a ms apart =
      elim (q == p) as (λ b. (q == p) ≡ b → (if b then a ∷ of_part p ms else of_part p ms) ≡ of_part p ms) [
        | true ↦ λ same. absurd (apart (grind (arith, nat_tests)))
        | false ↦ λ _. refl
      ] refl

-- the bodies of those with parts are those that were given parts
pub bodies_zip : (parts : List ℕ) (frames : List Frame) → length parts ≡ length frames → bodies (zip parts frames) ≡ frames
bodies_zip [] [] e = refl
bodies_zip [] (f ∷ frames) e = absurd (omega arith)
bodies_zip (p ∷ parts) [] e = absurd (omega arith)
bodies_zip (p ∷ parts) (f ∷ frames) e = ap (λ fs. f ∷ fs) (bodies_zip parts frames (omega arith))

pub parts_zip : (parts : List ℕ) (frames : List Frame) → length parts ≡ length frames → map (λ (m : ℕ × Frame). m.0) (zip parts frames) ≡ parts
parts_zip [] [] e = refl
parts_zip [] (f ∷ frames) e = absurd (omega arith)
parts_zip (p ∷ parts) [] e = absurd (omega arith)
parts_zip (p ∷ parts) (f ∷ frames) e = ap (λ ps. p ∷ ps) (parts_zip parts frames (omega arith))

pub zip_below : (count : ℕ) (parts : List ℕ) (frames : List Frame) → AllByRecursion (λ part. part < count) parts → AllByRecursion (λ (m : ℕ × Frame). m.0 < count) (zip parts frames)
zip_below count [] frames h = tt
zip_below count (p ∷ parts) [] h = tt
zip_below count (p ∷ parts) (f ∷ frames) h = (h.0, zip_below count parts frames h.1)
