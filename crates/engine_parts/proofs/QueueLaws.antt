-- Lists that are read in turn, each item as the next one of its part.
use Rattle.std.proofs.Common.{◌≡◌, ◌≢◌, ℕ, zero, suc, ◌+◌, ◌<◌, ◌≤◌, ◌==◌, true, false, List, [], ◌∷◌, ◌++◌, length, drop, get_or, replicate, zip, Option, Some, slice_get, slice_index, refl, sym, ap, ◌∙◌, subst, arith, add-one, append_assoc, append-nil, get_or-set_other, get_or-set_same}
use Rattle.std.proofs.Math.ListN.{set}
use Rattle.std.proofs.lemmas.Bool.Decides.{nat_tests}
use Rattle.std.specs.List.{AllByRecursion}
use Rattle.issuer_words.specs.Words.{ReplyBody}
use Rattle.engine_parts.specs.declared.decided_part.DecidedPart.{DecidedPart}
use Rattle.issuer_rows.proofs.OverlayLaws.{left_at}
use Rattle.issuer_laws.specs.Parts.{of_part}
use Rattle.engine_parts.proofs.OrderLaws.{part_other, part_own, zip_left}
use Rattle.engine_parts.specs.Decided.{AreInOrder, HaveParts, list_at, replies_of, with_next}

module _ {A : Type 0} where
  -- an item at each place of a list
  pub some_at : (xs : List A) (i : ℕ) → i < length xs → (x : A) × (slice_get xs i ≡ Some x)
  some_at [] i h = absurd (omega arith)
  some_at (x ∷ xs) zero h = (x, refl)
  some_at (x ∷ xs) (suc i) h = some_at xs i (omega arith)

  -- the first of what is left, and what is left behind it
  next_of : (xs : List A) (n : ℕ) (a : A) (rest : List A) → drop n xs ≡ a ∷ rest → (slice_get xs n ≡ Some a) × (drop (suc n) xs ≡ rest)
  next_of [] zero a rest e = absurd (cc)
  next_of [] (suc n) a rest e = absurd (cc)
  next_of (x ∷ xs) zero a rest e = (cc, cc)
  next_of (x ∷ xs) (suc n) a rest e = next_of xs n a rest e

  -- nothing is read yet
  pub in_order_first : (parts : List ℕ) (lists : List (List A)) (next : List ℕ) → ((part : ℕ) → slice_index next part ≡ 0) → AreInOrder parts lists 0 next []
  in_order_first parts lists next zeros all same have =
      (refl, λ part within. ap (λ (n : ℕ). drop n (list_at lists part)) (zeros part) ∙ have part within)

  -- the cursor of each part behind one more item
  cursors : (parts : List ℕ) (lists : List (List A)) (i part : ℕ) (next : List ℕ) (all : List A) (a : A) → slice_get parts i ≡ Some part → slice_get all i ≡ Some a → part < length next
      → drop (suc (slice_index next part)) (list_at lists part) ≡ of_part part (drop (i + 1) (zip parts all))
      → (q : ℕ) → drop (slice_index next q) (list_at lists q) ≡ of_part q (drop i (zip parts all))
      → drop (slice_index (set next part (slice_index next part + 1)) q) (list_at lists q) ≡ of_part q (drop (i + 1) (zip parts all))
  cursors parts lists i part next all a at here within own q was =
      elim (q == part) as (λ b. (q == part) ≡ b → drop (slice_index (set next part (slice_index next part + 1)) q) (list_at lists q) ≡ of_part q (drop (i + 1) (zip parts all))) [
        | true ↦ λ e.
            let same : part ≡ q = grind (arith, nat_tests) in
            subst (λ (p : ℕ). drop (slice_index (set next part (slice_index next part + 1)) p) (list_at lists p) ≡ of_part p (drop (i + 1) (zip parts all))) same
            (ap (λ (n : ℕ). drop n (list_at lists part)) (get_or-set_same next part (slice_index next part + 1) 0 within ∙ add-one (slice_index next part)) ∙ own)
        | false ↦ λ e.
            let other : q ≢ part = grind (arith, nat_tests) in
            let turned : part ≢ q = λ same. other (sym same) in
            ap (λ (n : ℕ). drop n (list_at lists q)) (get_or-set_other next part q (slice_index next part + 1) 0 other)
            ∙ was ∙ ap (of_part q) (zip_left parts all i part a at here) ∙ part_other q part a (drop (i + 1) (zip parts all)) turned
      ] refl

  -- one more item is read
  pub in_order_next : (parts : List ℕ) (lists : List (List A)) (i part : ℕ) (next : List ℕ) (ordered : List A) → slice_get parts i ≡ Some part → i < length parts → part < length lists → length next ≡ length lists
      → AreInOrder parts lists i next ordered
      → AreInOrder parts lists (i + 1) (set next part (slice_index next part + 1)) (with_next ordered (slice_get (list_at lists part) (slice_index next part)))
  in_order_next parts lists i part next ordered at inside within long so all same have =
      let told = so all same have in
      let here = some_at all i (omega (arith, same)) in
      let a = here.0 in
      let read = next_of (list_at lists part) (slice_index next part) a (of_part part (drop (i + 1) (zip parts all)))
      (told.1 part within ∙ ap (of_part part) (zip_left parts all i part a at here.1) ∙ part_own part part a (drop (i + 1) (zip parts all)) refl) in (
        ap (λ (o : Option A). with_next ordered o ++ drop (i + 1) all) read.0
            ∙ append_assoc ordered (a ∷ []) (drop (i + 1) all)
            ∙ ap (λ (rest : List A). ordered ++ rest) (sym (left_at all i a here.1))
            ∙ told.0,
        λ q q_within. cursors parts lists i part next all a at here.1 (omega (arith, long)) read.1 q (told.1 q q_within),
      )

  nothing_left : (xs : List A) (n : ℕ) → length xs ≡ n → drop n xs ≡ []
  nothing_left [] zero e = refl
  nothing_left [] (suc n) e = refl
  nothing_left (x ∷ xs) zero e = absurd (omega arith)
  nothing_left (x ∷ xs) (suc n) e = nothing_left xs n (omega arith)

  -- all are read
  pub in_order_all : (parts : List ℕ) (lists : List (List A)) (next : List ℕ) (ordered : List A) → AreInOrder parts lists (length parts) next ordered
      → (all : List A) → length all ≡ length parts → HaveParts parts all lists → ordered ≡ all
  in_order_all parts lists next ordered so all same have =
      sym (append-nil ordered) ∙ ap (λ (rest : List A). ordered ++ rest) (sym (nothing_left all (length parts) same)) ∙ (so all same have).0

-- each cursor is no further than the items that were read
pub small_next : (next : List ℕ) (part place i : ℕ) → ((q : ℕ) → slice_index next q ≤ i) → place ≤ i → part < length next → (q : ℕ) → slice_index (set next part (place + 1)) q ≤ i + 1
small_next next part place i small here within q =
    elim (q == part) as (λ b. (q == part) ≡ b → slice_index (set next part (place + 1)) q ≤ i + 1) [
      | true ↦ λ e.
          let same : part ≡ q = grind (arith, nat_tests) in
          subst (λ (p : ℕ). slice_index (set next part (place + 1)) p ≤ i + 1) same (rw (get_or-set_same next part (place + 1) 0 within) (omega arith))
      | false ↦ λ e.
          let other : q ≢ part = grind (arith, nat_tests) in
          rw (get_or-set_other next part q (place + 1) 0 other) (let s = small q in omega (arith, s))
    ] refl

pub zeros : (n p : ℕ) → slice_index (replicate n 0) p ≡ 0
zeros zero p = refl
zeros (suc n) zero = refl
zeros (suc n) (suc p) = zeros n p

-- each part is below their number
pub below_at : (parts : List ℕ) (count i : ℕ) → AllByRecursion (λ part. part < count) parts → i < length parts → get_or parts i 0 < count
below_at [] count i all h = absurd (omega arith)
below_at (p ∷ parts) count zero all h = all.0
below_at (p ∷ parts) count (suc i) all h = below_at parts count i all.1 (omega arith)

pub length_replies : (others : List DecidedPart) (last : List ReplyBody) → length (replies_of others last) ≡ length others + 1
length_replies [] last = refl
length_replies (one ∷ others) last = omega (arith, length_replies others last)
