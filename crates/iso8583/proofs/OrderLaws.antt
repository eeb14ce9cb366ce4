-- The order of texts by numbers that several of their bytes spell.
use Rattle.std.proofs.Common.{◌≡◌, ℕ, zero, suc, ◌+◌, ◌-◌, ◌*◌, ◌<◌, ◌≤◌, Bool, true, false, ◌&&◌, nat_le, replicate, List, [], ◌∷◌, ◌++◌, length, take, drop, slice_index, Ordering, Less, Equal, Greater, inl, inr, refl, sym, ap, subst, ◌∙◌, arith, take-append-drop}
use Rattle.std.proofs.Math.Seq.{take-add}
use Rattle.std.proofs.lemmas.Bool.{cases_order, false≢true}
use Rattle.std.proofs.lemmas.Bool.Decides.{nat_tests}
use Rattle.std.specs.List.{list_all}
use Rattle.iso8583.specs.Class.{IsPrintable}
use Rattle.iso8583.specs.Padded.{IsPadded, length_back}
use Rattle.std.proofs.lemmas.List.{length-drop, length-take-le}
use Rattle.std.specs.Cmp.{nat_cmp_is}
use Rattle.std.specs.Cmp.Lexicographic.{slice_cmp}
use Rattle.std.specs.FinMap as map
use Rattle.std.specs.Int.{w32, w64, from_be_bytes}
use Rattle.std.specs.Ordering.{nat_cmp, ordering_then}

-- ---- numbers that bytes spell

-- the number that the bytes spell behind another, the greatest first
abbrev spelled : ℕ → List ℕ → ℕ
spelled n [] = n
spelled n (b ∷ bs) = spelled (n * 256 + b) bs

abbrev pub AreBytes : List ℕ → Type 0
AreBytes bytes = (i : ℕ) → slice_index bytes i < 256

below : (m n : ℕ) (xs ys : List ℕ) → length xs ≡ length ys → AreBytes xs → m < n → spelled m xs < spelled n ys
below m n [] [] e b h = h
below m n [] (y ∷ ys) e b h = absurd (omega arith)
below m n (x ∷ xs) [] e b h = absurd (omega arith)
below m n (x ∷ xs) (y ∷ ys) e b h =
    let x_below : x < 256 = b 0 in
    below (m * 256 + x) (n * 256 + y) xs ys (omega arith) (λ i. b (suc i)) (omega arith)

-- the numbers compare as the bytes
cmp_spelled : (n : ℕ) (xs ys : List ℕ) → length xs ≡ length ys → AreBytes xs → AreBytes ys → nat_cmp (spelled n xs) (spelled n ys) ≡ slice_cmp nat_cmp xs ys
cmp_spelled n [] [] e b c = sym (nat_cmp_is n n Equal refl)
cmp_spelled n [] (y ∷ ys) e b c = absurd (omega arith)
cmp_spelled n (x ∷ xs) [] e b c = absurd (omega arith)
cmp_spelled n (x ∷ xs) (y ∷ ys) e b c =
    let same : length xs ≡ length ys = omega arith in
    let first : (o : Ordering) → o ≡ nat_cmp x y → ordering_then o (slice_cmp nat_cmp xs ys) ≡ slice_cmp nat_cmp (x ∷ xs) (y ∷ ys) =
    λ o is. ap (λ r. ordering_then r (slice_cmp nat_cmp xs ys)) is in
    elim (cases_order x y) [
      | inl alike ↦
          subst (λ z. nat_cmp (spelled (n * 256 + x) xs) (spelled (n * 256 + z) ys) ≡ slice_cmp nat_cmp xs ys) alike (cmp_spelled (n * 256 + x) xs ys same (λ i. b (suc i)) (λ i. c (suc i)))
          ∙ first Equal (nat_cmp_is x y Equal alike)
      | inr apart ↦ elim apart [
        | inl less ↦ sym (nat_cmp_is _ _ Less (below (n * 256 + x) (n * 256 + y) xs ys same (λ i. b (suc i)) (omega arith))) ∙ first Less (nat_cmp_is x y Less less)
        | inr more ↦ sym (nat_cmp_is _ _ Greater (below (n * 256 + y) (n * 256 + x) ys xs (sym same) (λ i. c (suc i)) (omega arith))) ∙ first Greater (nat_cmp_is x y Greater more)
      ]
    ]

eight : (a b c d e f g h : ℕ) → from_be_bytes w64 (a ∷ b ∷ c ∷ d ∷ e ∷ f ∷ g ∷ h ∷ []) ≡ spelled 0 (a ∷ b ∷ c ∷ d ∷ e ∷ f ∷ g ∷ h ∷ [])
eight a b c d e f g h = omega arith

four : (a b c d : ℕ) → from_be_bytes w32 (a ∷ b ∷ c ∷ d ∷ []) ≡ spelled 0 (a ∷ b ∷ c ∷ d ∷ [])
four a b c d = omega arith

is_spelled_eight : (xs : List ℕ) → length xs ≡ 8 → from_be_bytes w64 xs ≡ spelled 0 xs
is_spelled_eight (a ∷ b ∷ c ∷ d ∷ e ∷ f ∷ g ∷ h ∷ []) l = eight a b c d e f g h
is_spelled_eight _ l = absurd (omega arith)

is_spelled_four : (xs : List ℕ) → length xs ≡ 4 → from_be_bytes w32 xs ≡ spelled 0 xs
is_spelled_four (a ∷ b ∷ c ∷ d ∷ []) l = four a b c d
is_spelled_four _ l = absurd (omega arith)

-- numbers of eight bytes compare as the bytes
pub cmp_eight : (xs ys : List ℕ) → length xs ≡ 8 → length ys ≡ 8 → AreBytes xs → AreBytes ys → nat_cmp (from_be_bytes w64 xs) (from_be_bytes w64 ys) ≡ slice_cmp nat_cmp xs ys
cmp_eight xs ys l m b c = (λ i. nat_cmp (is_spelled_eight xs l i) (is_spelled_eight ys m i)) ∙ cmp_spelled 0 xs ys (l ∙ sym m) b c

-- numbers of four bytes compare as the bytes
pub cmp_four : (xs ys : List ℕ) → length xs ≡ 4 → length ys ≡ 4 → AreBytes xs → AreBytes ys → nat_cmp (from_be_bytes w32 xs) (from_be_bytes w32 ys) ≡ slice_cmp nat_cmp xs ys
cmp_four xs ys l m b c = (λ i. nat_cmp (is_spelled_four xs l i) (is_spelled_four ys m i)) ∙ cmp_spelled 0 xs ys (l ∙ sym m) b c

bytes_take : (k : ℕ) (l : List ℕ) → AreBytes l → AreBytes (take k l)
bytes_take zero l b i = omega arith
bytes_take (suc k) [] b i = omega arith
bytes_take (suc k) (x ∷ l) b zero = b 0
bytes_take (suc k) (x ∷ l) b (suc i) = bytes_take k l (λ j. b (suc j)) i

bytes_drop : (p : ℕ) (l : List ℕ) → AreBytes l → AreBytes (drop p l)
bytes_drop zero l b i = b i
bytes_drop (suc p) [] b i = omega arith
bytes_drop (suc p) (x ∷ l) b i = bytes_drop p l (λ j. b (suc j)) i

-- some of the bytes are bytes
pub bytes_part : (p k : ℕ) (l : List ℕ) → AreBytes l → AreBytes (take k (drop p l))
bytes_part p k l b = bytes_take k (drop p l) (bytes_drop p l b)

-- so many of them are there
pub length_part : (p k : ℕ) (l : List ℕ) → p + k ≤ length l → length (take k (drop p l)) ≡ k
length_part p k l within = let enough : k ≤ length (drop p l) = omega (arith, length-drop p l) in length-take-le k (drop p l) enough

-- ---- some of the bytes

then_assoc : (o p q : Ordering) → ordering_then (ordering_then o p) q ≡ ordering_then o (ordering_then p q)
then_assoc Less p q = refl
then_assoc Equal p q = refl
then_assoc Greater p q = refl

-- lists compare by their first parts of one length, and then by what is behind
pub cmp_append : (u v r s : List ℕ) → length u ≡ length v → slice_cmp nat_cmp (u ++ r) (v ++ s) ≡ ordering_then (slice_cmp nat_cmp u v) (slice_cmp nat_cmp r s)
cmp_append [] [] r s e = refl
cmp_append [] (y ∷ v) r s e = absurd (omega arith)
cmp_append (x ∷ u) [] r s e = absurd (omega arith)
cmp_append (x ∷ u) (y ∷ v) r s e =
    ap (ordering_then (nat_cmp x y)) (cmp_append u v r s (omega arith)) ∙ sym (then_assoc (nat_cmp x y) (slice_cmp nat_cmp u v) (slice_cmp nat_cmp r s))

-- a list compares as equal with itself
pub cmp_same : (u : List ℕ) → slice_cmp nat_cmp u u ≡ Equal
cmp_same [] = refl
cmp_same (x ∷ u) = ap (λ o. ordering_then o (slice_cmp nat_cmp u u)) (sym (nat_cmp_is x x Equal refl)) ∙ cmp_same u

module _ (a b : List ℕ) (size : length a ≡ length b) where
  -- behind bytes that are the same, the rest decides
  past : (i : ℕ) → take i a ≡ take i b → slice_cmp nat_cmp a b ≡ slice_cmp nat_cmp (drop i a) (drop i b)
  past i alike =
      (λ j. slice_cmp nat_cmp (sym (take-append-drop i a) j) (sym (take-append-drop i b) j))
      ∙ cmp_append (take i a) (take i b) (drop i a) (drop i b) (ap length alike)
      ∙ (λ j. ordering_then (slice_cmp nat_cmp (take i a) (sym alike j)) (slice_cmp nat_cmp (drop i a) (drop i b)))
      ∙ ap (λ o. ordering_then o (slice_cmp nat_cmp (drop i a) (drop i b))) (cmp_same (take i a))

  module _ (i k : ℕ) (within : i + k ≤ length a) (alike : take i a ≡ take i b) (o : Ordering) (is : o ≡ slice_cmp nat_cmp (take k (drop i a)) (take k (drop i b))) where
    lengths : length (take k (drop i a)) ≡ length (take k (drop i b))
    lengths =
        let mine : k ≤ length (drop i a) = omega (arith, length-drop i a) in
        let theirs : k ≤ length (drop i b) = omega (arith, length-drop i b) in
        length-take-le k (drop i a) mine ∙ sym (length-take-le k (drop i b) theirs)

    -- then these decide, and the rest behind them
    by_part : slice_cmp nat_cmp a b ≡ ordering_then o (slice_cmp nat_cmp (drop k (drop i a)) (drop k (drop i b)))
    by_part =
        past i alike
        ∙ (λ j. slice_cmp nat_cmp (sym (take-append-drop k (drop i a)) j) (sym (take-append-drop k (drop i b)) j))
        ∙ cmp_append (take k (drop i a)) (take k (drop i b)) (drop k (drop i a)) (drop k (drop i b)) lengths
        ∙ ap (λ p. ordering_then p (slice_cmp nat_cmp (drop k (drop i a)) (drop k (drop i b)))) (sym is)

    decided : (p q : Ordering) → (p ≡ Equal → ⊥) → p ≡ ordering_then p q
    decided Less q h = refl
    decided Equal q h = absurd (h refl)
    decided Greater q h = refl

    -- bytes that differ decide
    pub part_decides : (o ≡ Equal → ⊥) → o ≡ slice_cmp nat_cmp a b
    part_decides apart = decided o _ apart ∙ sym by_part

    -- bytes that don't differ are the same
    pub part_agrees : o ≡ Equal → take (i + k) a ≡ take (i + k) b
    part_agrees equal =
        let part = map.slice_cmp-IsAntisymmetric map.nat_cmp-IsAntisymmetric (take k (drop i a)) (take k (drop i b)) (sym is ∙ equal) in
        take-add i k a ∙ (λ j. alike j ++ part j) ∙ sym (take-add i k b)

    then_none : (p : Ordering) → p ≡ ordering_then p Equal
    then_none Less = refl
    then_none Equal = refl
    then_none Greater = refl

    -- the last bytes decide
    pub part_ends : i + k ≡ length a → o ≡ slice_cmp nat_cmp a b
    part_ends end =
        let mine : drop k (drop i a) ≡ [] = nothing _ (omega (arith, length-drop k (drop i a), length-drop i a)) in
        let theirs : drop k (drop i b) ≡ [] = nothing _ (omega (arith, length-drop k (drop i b), length-drop i b)) in
        then_none o ∙ sym (by_part ∙ (λ j. ordering_then o (slice_cmp nat_cmp (mine j) (theirs j))))
      where
        nothing : (l : List ℕ) → length l ≡ 0 → l ≡ []
        nothing [] e = refl
        nothing (x ∷ l) e = absurd (omega arith)

  -- fewer of bytes that are the same are the same
  pub fewer : (i j : ℕ) → j ≤ i → take i a ≡ take i b → take j a ≡ take j b
  fewer i j less alike = sym (take_of i j a less) ∙ ap (take j) alike ∙ take_of i j b less
    where
      take_of : (i j : ℕ) (l : List ℕ) → j ≤ i → take j (take i l) ≡ take j l
      take_of i zero l less = refl
      take_of zero (suc j) l less = absurd (omega arith)
      take_of (suc i) (suc j) [] less = refl
      take_of (suc i) (suc j) (x ∷ l) less = ap (λ (t : List ℕ). x ∷ t) (take_of i j l (omega arith))

-- ---- texts with zeros behind them

module _ (test : ℕ → Bool) (above : (c : ℕ) → test c ≡ true → 0 < c) where
  split : (p q : Bool) → (p && q) ≡ true → (p ≡ true) × (q ≡ true)
  split true q h = (refl, h)
  split false q h = absurd (false≢true h)

  -- texts of characters other than zero compare as they do with zeros behind them, up to one length
  pub cmp_padded : (s t : List ℕ) (m n : ℕ) → list_all test s ≡ true → list_all test t ≡ true → length s + m ≡ length t + n
      → slice_cmp nat_cmp (s ++ replicate m 0) (t ++ replicate n 0) ≡ slice_cmp nat_cmp s t
  cmp_padded [] [] m n f g e = let same : m ≡ n = omega arith in ap (λ k. slice_cmp nat_cmp (replicate m 0) (replicate k 0)) (sym same) ∙ cmp_same (replicate m 0)
  cmp_padded [] (y ∷ t) zero n f g e = absurd (omega arith)
  cmp_padded [] (y ∷ t) (suc m) n f g e =
      ap (λ o. ordering_then o (slice_cmp nat_cmp (replicate m 0) (t ++ replicate n 0))) (sym (nat_cmp_is 0 y Less (above y (split (test y) (list_all test t) g).0)))
  cmp_padded (x ∷ s) [] m zero f g e = absurd (omega arith)
  cmp_padded (x ∷ s) [] m (suc n) f g e =
      ap (λ o. ordering_then o (slice_cmp nat_cmp (s ++ replicate m 0) (replicate n 0))) (sym (nat_cmp_is x 0 Greater (above x (split (test x) (list_all test s) f).0)))
  cmp_padded (x ∷ s) (y ∷ t) m n f g e =
      ap (ordering_then (nat_cmp x y)) (cmp_padded s t m n (split (test x) (list_all test s) f).1 (split (test y) (list_all test t) g).1 (omega arith))

printable_above : (c : ℕ) → (nat_le 32 c && nat_le c 126) ≡ true → 0 < c
printable_above c h = grind (arith, nat_tests)

module _ (min max : ℕ) (a b : List ℕ) (m n : ℕ) where
  behind : (IsOfClass : List ℕ → Type 0) (l : List ℕ) (k : ℕ) → IsPadded IsOfClass min max l k → take k l ++ replicate (max - k) 0 ≡ l
  behind IsOfClass l k h = ap (λ (zs : List ℕ). take k l ++ zs) (sym h.zeros) ∙ take-append-drop k l

  level : (IsOfClass : List ℕ → Type 0) → IsPadded IsOfClass min max a m → IsPadded IsOfClass min max b n → length (take m a) + (max - m) ≡ length (take n b) + (max - n)
  level IsOfClass h k = omega (arith, length_back IsOfClass min max a m h, length_back IsOfClass min max b n k, h.at_most, k.at_most)

  -- padded texts of printable characters compare as the texts
  pub cmp_padded_printable : IsPadded IsPrintable min max a m → IsPadded IsPrintable min max b n → slice_cmp nat_cmp a b ≡ slice_cmp nat_cmp (take m a) (take n b)
  cmp_padded_printable h k =
      (λ i. slice_cmp nat_cmp (sym (behind IsPrintable a m h) i) (sym (behind IsPrintable b n k) i))
      ∙ cmp_padded (λ c. nat_le 32 c && nat_le c 126) printable_above (take m a) (take n b) (max - m) (max - n) h.class k.class (level IsPrintable h k)
