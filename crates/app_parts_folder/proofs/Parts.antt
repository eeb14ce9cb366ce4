-- Parts that are made one after another.
use Rattle.std.proofs.Common.{◌≡◌, ◌⊎◌, inl, inr, ℕ, zero, suc, ◌+◌, ◌<◌, List, [], ◌∷◌, ◌++◌, length, slice_index_or, Option, Some, None, IfSome, Ok, refl, ap, subst, ◌∙◌, arith}
use Rattle.std.proofs.lemmas.List.{append-nil}
use Rattle.std.proofs.lemmas.List.Concat.{flat_map-append}
use Rattle.std.specs.List.{flat_map}
use Rattle.book_laws.specs.Reading.{reading}
use Rattle.parts_books.specs.PartBooks.{each_from, each_part, part_rows}
use Rattle.app_parts_folder.specs.Parting.{Parting, book_of_part, part_texts, parted, parts_texts}
use Rattle.app_parts_folder.specs.Making.{AreMadeFrom, IsMade}
use Rattle.app_parts_folder.specs.Texts.{Text}
use Rattle.app_parts_folder.specs.declared.making.OnePart.{OnePart}
use Rattle.parts_books.proofs.Going.{each_last}

-- one more part
pub each_more : {A : Type 0} (of : ℕ → A) (count : ℕ) → each_part of (count + 1) ≡ each_part of count ++ of count ∷ []
each_more of count =
    let same : 0 + count ≡ count = omega arith in
    each_last of 0 count ∙ ap (λ (n : ℕ). each_part of count ++ of n ∷ []) same

long_from : {A : Type 0} (of : ℕ → A) (from count : ℕ) → length (each_from of from count) ≡ count
long_from of from zero = refl
long_from of from (suc count) = ap suc (long_from of (suc from) count)

-- how many they are
pub length-each : {A : Type 0} (of : ℕ → A) (count : ℕ) → length (each_part of count) ≡ count
length-each of count = long_from of 0 count

-- and its texts
pub texts_more : (folder : List ℕ) (p : Parting) (count : ℕ) → parts_texts folder p (count + 1) ≡ parts_texts folder p count ++ part_texts folder p count
texts_more folder p count =
    ap (flat_map (λ (texts : List Text). texts)) (each_more (part_texts folder p) count)
    ∙ flat_map-append (λ (texts : List Text). texts) (each_part (part_texts folder p) count) (part_texts folder p count ∷ [])
    ∙ ap (λ (x : List Text). parts_texts folder p count ++ x) (append-nil (part_texts folder p count))

below_or_last : (k n : ℕ) → k < n + 1 → (k < n) ⊎ (n ≡ k)
below_or_last k zero lt = inr (omega (arith, lt))
below_or_last zero (suc n) lt = inl (omega arith)
below_or_last (suc k) (suc n) lt = elim (below_or_last k n (omega (arith, lt))) [ inl h ↦ inl (omega (arith, h)) | inr h ↦ inr (ap suc h) ]

-- its book is read again, too
pub back_more : (p : Parting) (count : ℕ) → ((part : ℕ) → part < count → reading (book_of_part p part) ≡ Ok (part_rows p.rows (parted p) part))
    → reading (book_of_part p count) ≡ Ok (part_rows p.rows (parted p) count)
    → (part : ℕ) → part < count + 1 → reading (book_of_part p part) ≡ Ok (part_rows p.rows (parted p) part)
back_more p count before last part lt =
    elim (below_or_last part count lt) [
      | inl h ↦ before part h
      | inr h ↦ subst (λ (k : ℕ). reading (book_of_part p k) ≡ Ok (part_rows p.rows (parted p) k)) h last
    ]

-- of the parts that are made, the next one
pub first_made : (p : Parting) (first : ℕ) (ones left : List (Option OnePart)) (one : OnePart) → ones ≡ Some one ∷ left → AreMadeFrom p first ones → IsMade p first one
first_made p first ones left one is made =
    let same : first + 0 ≡ first = omega arith in
    subst (λ (part : ℕ). IsMade p part one) same (subst (AreMadeFrom p first) is made 0 None (omega arith))

-- and those behind it
pub rest_made : (p : Parting) (first : ℕ) (ones left : List (Option OnePart)) (one : OnePart) → ones ≡ Some one ∷ left → AreMadeFrom p first ones → AreMadeFrom p (first + 1) left
rest_made p first ones left one is made = λ place other within.
    let same : first + suc place ≡ first + 1 + place = omega arith in
    subst (λ (part : ℕ). IfSome (slice_index_or left place other) (IsMade p part)) same (subst (AreMadeFrom p first) is made (suc place) other (omega (arith, within)))
