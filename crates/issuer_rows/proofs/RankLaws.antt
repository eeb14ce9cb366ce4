-- A rank that is less is of a key that comes before.
use Rattle.std.proofs.Common.{◌≡◌, ◌≢◌, ℕ, zero, suc, ◌+◌, ◌-◌, ◌*◌, ◌^◌, ◌<◌, ◌≤◌, true, false, nat_lt, List, Option, None, Some, [], ◌∷◌, ◌++◌, length, get_or, slice_get, Ordering, Less, Equal, Greater, inl, inr, refl, sym, ap, subst, ◌∙◌, arith, lit<}
use Rattle.std.proofs.lemmas.Bool.{and_parts, cases_order}
use Rattle.std.proofs.lemmas.Bool.Decides.{nat_tests}
use Rattle.std.proofs.lemmas.List.{length-append}
use Rattle.std.proofs.lemmas.Option.{slice_get-get_or, slice_get_past}
use Rattle.std.proofs.Math.Nat.{mul-le-mul_left, mul-le-mul_right, pow-le-pow_right, pow-suc}
use Rattle.std.specs.Cmp.{nat_cmp_is}
use Rattle.std.specs.Cmp.Lexicographic.{slice_cmp}
use Rattle.std.specs.List.{AllByRecursion}
use Rattle.std.specs.Ordering.{nat_cmp, ordering_then}
use Rattle.iso8583.proofs.NumberLaws.{digit_bounds}
use Rattle.iso8583.proofs.OrderLaws.{cmp_append, cmp_same}
use Rattle.iso8583.specs.Class.{is_digits}
use Rattle.iso8583.specs.declared.identity.Identity.{Identity}
use Rattle.issuer_rows.specs.Rank.{IsOfDigits, digits_of, digits_of_key, rank_of, with_digits}
use Rattle.issuer_rows.specs.RowKey.{key_cmp, kind_of, text_cmp, texts_cmp}
use Rattle.issuer_rows.specs.declared.row_key.RowKey.{RowKey}
use Rattle.issuer_rows.specs.declared.row_key.RowKey.TheVariants as key

-- ---- digits to the base 11

abbrev AreBase11 : List ℕ → Type 0
AreBase11 = AllByRecursion (λ d. d < 11)

length-digits_of : (count : ℕ) (text : List ℕ) → length (digits_of count text) ≡ count
length-digits_of zero text = refl
length-digits_of (suc count) [] = ap suc (length-digits_of count [])
length-digits_of (suc count) (c ∷ text) = ap suc (length-digits_of count text)

are_base_11 : (count : ℕ) (text : List ℕ) → is_digits text ≡ true → AreBase11 (digits_of count text)
are_base_11 zero text h = tt
are_base_11 (suc count) [] h = (omega arith, are_base_11 count [] h)
are_base_11 (suc count) (c ∷ text) h =
    let parts = and_parts _ (is_digits text) h in
    let bounds = digit_bounds c parts.0 in
    (omega (arith, bounds.0, bounds.1), are_base_11 count text parts.1)

both_base_11 : (xs ys : List ℕ) → AreBase11 xs → AreBase11 ys → AreBase11 (xs ++ ys)
both_base_11 [] ys h k = k
both_base_11 (x ∷ xs) ys h k = (h.0, both_base_11 xs ys h.1 k)

-- the digit that one more character is, or none
abbrev pub digit_in : Option ℕ → ℕ
digit_in None = 0
digit_in (Some c) = c - 47

-- one more digit
pub digits_of-suc : (count : ℕ) (text : List ℕ) → digits_of (suc count) text ≡ digits_of count text ++ digit_in (slice_get text count) ∷ []
digits_of-suc zero [] = refl
digits_of-suc zero (c ∷ text) = refl
digits_of-suc (suc count) [] = ap (λ (ds : List ℕ). 0 ∷ ds) (digits_of-suc count [])
digits_of-suc (suc count) (c ∷ text) = ap (λ (ds : List ℕ). (c - 47) ∷ ds) (digits_of-suc count text)

-- further digits, and those behind them
pub with_digits-append : (number : ℕ) (ds es : List ℕ) → with_digits number (ds ++ es) ≡ with_digits (with_digits number ds) es
with_digits-append number [] es = refl
with_digits-append number (d ∷ ds) es = with_digits-append (number * 11 + d) ds es

-- how great a number is with further digits
bounded : (number : ℕ) (ds : List ℕ) → AreBase11 ds → with_digits number ds + 1 ≤ (number + 1) * 11 ^ length ds
bounded number [] h = omega arith
bounded number (d ∷ ds) h =
    let rest = bounded (number * 11 + d) ds h.1 in
    let first : number * 11 + d + 1 ≤ (number + 1) * 11 = omega (arith, h.0) in
    let more = mul-le-mul_right (11 ^ length ds) first in
    rw (pow-suc 11 (length ds)) (omega (arith, rest, more))

-- how great it is with so many digits of a text
pub digits_bounded : (number count : ℕ) (text : List ℕ) → is_digits text ≡ true → with_digits number (digits_of count text) + 1 ≤ (number + 1) * 11 ^ count
digits_bounded number count text digits =
    rw (length-digits_of count text) at (bounded number (digits_of count text) (are_base_11 count text digits))

-- a number with one more digit fits where all digits do
pub digit_fits : (number count place : ℕ) (text : List ℕ) → is_digits text ≡ true → (number + 1) * 11 ^ count ≤ 2 ^ 64 → suc place ≤ count
    → with_digits number (digits_of place text) * 11 + digit_in (slice_get text place) < 2 ^ 64
digit_fits number count place text digits fits within =
    let more = digits_bounded number (suc place) text digits in
    let most : 11 ^ suc place ≤ 11 ^ count = pow-le-pow_right {n = 11} (lit< tt) within in
    let all = mul-le-mul_left (number + 1) most in
    let next : with_digits number (digits_of (suc place) text) ≡ with_digits number (digits_of place text) * 11 + digit_in (slice_get text place)
    = ap (with_digits number) (digits_of-suc place text) ∙ with_digits-append number (digits_of place text) (digit_in (slice_get text place) ∷ []) in
    omega (arith, more, fits, all, next)

-- ---- the order of numbers with the same count of digits

below : (m n : ℕ) (xs ys : List ℕ) → length xs ≡ length ys → AreBase11 xs → m < n → with_digits m xs < with_digits n ys
below m n [] [] e b h = h
below m n [] (y ∷ ys) e b h = absurd (omega arith)
below m n (x ∷ xs) [] e b h = absurd (omega arith)
below m n (x ∷ xs) (y ∷ ys) e b h = below (m * 11 + x) (n * 11 + y) xs ys (omega arith) b.1 (omega (arith, b.0))

-- of one number they compare as the digits
cmp_digits : (n : ℕ) (xs ys : List ℕ) → length xs ≡ length ys → AreBase11 xs → AreBase11 ys → nat_cmp (with_digits n xs) (with_digits n ys) ≡ slice_cmp nat_cmp xs ys
cmp_digits n [] [] e b c = sym (nat_cmp_is n n Equal refl)
cmp_digits n [] (y ∷ ys) e b c = absurd (omega arith)
cmp_digits n (x ∷ xs) [] e b c = absurd (omega arith)
cmp_digits n (x ∷ xs) (y ∷ ys) e b c =
    let same : length xs ≡ length ys = omega arith in
    let first : (o : Ordering) → o ≡ nat_cmp x y → ordering_then o (slice_cmp nat_cmp xs ys) ≡ slice_cmp nat_cmp (x ∷ xs) (y ∷ ys) =
    λ o is. ap (λ r. ordering_then r (slice_cmp nat_cmp xs ys)) is in
    elim (cases_order x y) [
      | inl alike ↦
          subst (λ z. nat_cmp (with_digits (n * 11 + x) xs) (with_digits (n * 11 + z) ys) ≡ slice_cmp nat_cmp xs ys) alike (cmp_digits (n * 11 + x) xs ys same b.1 c.1)
          ∙ first Equal (nat_cmp_is x y Equal alike)
      | inr apart ↦ elim apart [
        | inl less ↦ sym (nat_cmp_is _ _ Less (below (n * 11 + x) (n * 11 + y) xs ys same b.1 (omega arith))) ∙ first Less (nat_cmp_is x y Less less)
        | inr more ↦ sym (nat_cmp_is _ _ Greater (below (n * 11 + y) (n * 11 + x) ys xs (sym same) c.1 (omega arith))) ∙ first Greater (nat_cmp_is x y Greater more)
      ]
    ]

-- ---- the order of texts

-- what the first digits of two texts say of their order; that they are the same says something only of texts that are no longer
texts_as : (count : ℕ) (s t : List ℕ) → is_digits s ≡ true → is_digits t ≡ true → (o : Ordering) → slice_cmp nat_cmp (digits_of count s) (digits_of count t) ≡ o
    → (o ≡ Equal → (length s ≤ count) × (length t ≤ count)) → text_cmp s t ≡ o
texts_as zero [] [] h k o e short = e
texts_as zero [] (d ∷ t) h k o e short = absurd (omega (arith, (short (sym e)).1))
texts_as zero (c ∷ s) t h k o e short = absurd (omega (arith, (short (sym e)).0))
texts_as (suc count) [] [] h k o e short = texts_as count [] [] h k o e (λ q. (omega arith, omega arith))
texts_as (suc count) [] (d ∷ t) h k o e short =
    let bounds = digit_bounds d (and_parts _ (is_digits t) k).0 in
    ap (λ p. ordering_then p (slice_cmp nat_cmp (digits_of count []) (digits_of count t))) (nat_cmp_is 0 (d - 47) Less (omega (arith, bounds.0))) ∙ e
texts_as (suc count) (c ∷ s) [] h k o e short =
    let bounds = digit_bounds c (and_parts _ (is_digits s) h).0 in
    ap (λ p. ordering_then p (slice_cmp nat_cmp (digits_of count s) (digits_of count []))) (nat_cmp_is (c - 47) 0 Greater (omega (arith, bounds.0))) ∙ e
texts_as (suc count) (c ∷ s) (d ∷ t) h k o e short =
    let ones = and_parts _ (is_digits s) h in
    let others = and_parts _ (is_digits t) k in
    let low = digit_bounds c ones.0 in
    let low_other = digit_bounds d others.0 in
    let rest = slice_cmp nat_cmp (digits_of count s) (digits_of count t) in
    let seen : (p : Ordering) → p ≡ nat_cmp (c - 47) (d - 47) → ordering_then p rest ≡ o = λ p is. ap (λ r. ordering_then r rest) is ∙ e in
    let said : (p : Ordering) → p ≡ nat_cmp c d → text_cmp (c ∷ s) (d ∷ t) ≡ ordering_then p (text_cmp s t) = λ p is. sym (ap (λ r. ordering_then r (text_cmp s t)) is) in
    elim (cases_order c d) [
      | inl alike ↦
          said Equal (nat_cmp_is c d Equal alike)
          ∙ texts_as count s t ones.1 others.1 o (seen Equal (nat_cmp_is (c - 47) (d - 47) Equal (omega (arith, alike)))) (λ q. (omega (arith, (short q).0), omega (arith, (short q).1)))
      | inr apart ↦ elim apart [
        | inl less ↦ said Less (nat_cmp_is c d Less less) ∙ seen Less (nat_cmp_is (c - 47) (d - 47) Less (omega (arith, less, low.0, low_other.0)))
        | inr more ↦ said Greater (nat_cmp_is c d Greater more) ∙ seen Greater (nat_cmp_is (c - 47) (d - 47) Greater (omega (arith, more, low.0, low_other.0)))
      ]
    ]

length-digits_of_key : (k : RowKey) → length (digits_of_key k) ≡ 17
length-digits_of_key (key.Card pan) = length-digits_of 17 pan.0
length-digits_of_key (key.Velocity pan day) = length-digits_of 17 pan.0
length-digits_of_key (key.Budget prefix) = length-digits_of 17 prefix.0
length-digits_of_key (key.Original i) = length-append (digits_of 11 i.acquirer.0) (digits_of 6 i.stan.0) ∙ (λ j. length-digits_of 11 i.acquirer.0 j + length-digits_of 6 i.stan.0 j)
length-digits_of_key (key.Account id) = length-digits_of 17 []

key_base_11 : (k : RowKey) → IsOfDigits k → AreBase11 (digits_of_key k)
key_base_11 (key.Card pan) h = are_base_11 17 pan.0 h
key_base_11 (key.Velocity pan day) h = are_base_11 17 pan.0 h
key_base_11 (key.Budget prefix) h = are_base_11 17 prefix.0 h
key_base_11 (key.Original i) h = both_base_11 (digits_of 11 i.acquirer.0) (digits_of 6 i.stan.0) (are_base_11 11 i.acquirer.0 h.1) (are_base_11 6 i.stan.0 h.2)
key_base_11 (key.Account id) h = are_base_11 17 [] refl

-- ---- the digit of a place

pub digit_there : (text : List ℕ) (place c : ℕ) → true ≡ nat_lt place (length text) → c ≡ get_or text place c → digit_in (slice_get text place) ≡ c - 47
digit_there text place c within is = ap digit_in (slice_get-get_or text place c (grind (arith, nat_tests))) ∙ ap (λ b. b - 47) (sym is)

pub digit_gone : (text : List ℕ) (place : ℕ) → false ≡ nat_lt place (length text) → digit_in (slice_get text place) ≡ 0
digit_gone text place past = ap digit_in (slice_get_past text place (grind (arith, nat_tests)))

-- ---- the order of keys

then_decided : (o r : Ordering) → o ≢ Equal → ordering_then o r ≡ o
then_decided Less r n = refl
then_decided Equal r n = absurd (n refl)
then_decided Greater r n = refl

module _ (o : Ordering) (decided : o ≢ Equal) where
  by_one_text : (s t : List ℕ) (rest : Ordering) → is_digits s ≡ true → is_digits t ≡ true → slice_cmp nat_cmp (digits_of 17 s) (digits_of 17 t) ≡ o → ordering_then (text_cmp s t) rest ≡ o
  by_one_text s t rest h k e = ap (λ p. ordering_then p rest) (texts_as 17 s t h k o e (λ q. absurd (decided q))) ∙ then_decided o rest decided

  by_originals : (i j : Identity) → IsOfDigits (key.Original i) → IsOfDigits (key.Original j) → (p : Ordering) → slice_cmp nat_cmp (digits_of 11 i.acquirer.0) (digits_of 11 j.acquirer.0) ≡ p
      → slice_cmp nat_cmp (digits_of_key (key.Original i)) (digits_of_key (key.Original j)) ≡ o → texts_cmp (key.Original i) (key.Original j) ≡ o
  by_originals i j h k p first e =
      let seconds = slice_cmp nat_cmp (digits_of 6 i.stan.0) (digits_of 6 j.stan.0) in
      let split = cmp_append (digits_of 11 i.acquirer.0) (digits_of 11 j.acquirer.0) (digits_of 6 i.stan.0) (digits_of 6 j.stan.0) (length-digits_of 11 i.acquirer.0 ∙ sym (length-digits_of 11 j.acquirer.0)) in
      let all : ordering_then p seconds ≡ o = sym (ap (λ r. ordering_then r seconds) first) ∙ sym split ∙ e in
      let acquirers = texts_as 11 i.acquirer.0 j.acquirer.0 h.1 k.1 p first (λ q. (h.0, k.0)) in
      by_both p all acquirers
    where
      rest : Ordering
      rest = text_cmp i.stamp j.stamp

      by_both : (p : Ordering) → ordering_then p (slice_cmp nat_cmp (digits_of 6 i.stan.0) (digits_of 6 j.stan.0)) ≡ o → text_cmp i.acquirer.0 j.acquirer.0 ≡ p → texts_cmp (key.Original i) (key.Original j) ≡ o
      by_both Less all acquirers = ap (λ r. ordering_then r (ordering_then (text_cmp i.stan.0 j.stan.0) rest)) acquirers ∙ all
      by_both Equal all acquirers =
          ap (λ r. ordering_then r (ordering_then (text_cmp i.stan.0 j.stan.0) rest)) acquirers
          ∙ ap (λ r. ordering_then r rest) (texts_as 6 i.stan.0 j.stan.0 h.2 k.2 o all (λ q. absurd (decided q)))
          ∙ then_decided o rest decided
      by_both Greater all acquirers = ap (λ r. ordering_then r (ordering_then (text_cmp i.stan.0 j.stan.0) rest)) acquirers ∙ all

  -- keys of one kind come as their digits do, where those differ
  by_digits : (a b : RowKey) → kind_of a ≡ kind_of b → IsOfDigits a → IsOfDigits b → slice_cmp nat_cmp (digits_of_key a) (digits_of_key b) ≡ o → texts_cmp a b ≡ o
  by_digits (key.Card p) (key.Card q) same h k e = by_one_text p.0 q.0 _ h k e
  by_digits (key.Velocity p d) (key.Velocity q f) same h k e = by_one_text p.0 q.0 _ h k e
  by_digits (key.Budget p) (key.Budget q) same h k e = by_one_text p.0 q.0 _ h k e
  by_digits (key.Original i) (key.Original j) same h k e = by_originals i j h k _ refl e
  by_digits (key.Account i) (key.Account j) same h k e = absurd (decided (sym e ∙ cmp_same (digits_of 17 [])))
  by_digits _ _ same h k e = absurd (omega (arith, same))

-- ranks that differ say which of two keys comes first
ranks_decide : (a b : RowKey) → IsOfDigits a → IsOfDigits b → (o : Ordering) → nat_cmp (rank_of a) (rank_of b) ≡ o → o ≢ Equal → key_cmp a b ≡ o
ranks_decide a b h k o e decided =
    let said : (p : Ordering) → p ≡ nat_cmp (kind_of a) (kind_of b) → key_cmp a b ≡ ordering_then p (texts_cmp a b) = λ p is. sym (ap (λ r. ordering_then r (texts_cmp a b)) is) in
    elim (cases_order (kind_of a) (kind_of b)) [
      | inl same ↦
          said Equal (nat_cmp_is (kind_of a) (kind_of b) Equal same)
          ∙ by_digits o decided a b same h k
          (sym (cmp_digits (kind_of b) (digits_of_key a) (digits_of_key b) (length-digits_of_key a ∙ sym (length-digits_of_key b)) (key_base_11 a h) (key_base_11 b k))
          ∙ ap (λ n. nat_cmp (with_digits n (digits_of_key a)) (rank_of b)) (sym same) ∙ e)
      | inr apart ↦ elim apart [
        | inl less ↦ said Less (nat_cmp_is _ _ Less less) ∙ nat_cmp_is _ _ Less (below (kind_of a) (kind_of b) (digits_of_key a) (digits_of_key b) (length-digits_of_key a ∙ sym (length-digits_of_key b)) (key_base_11 a h) less) ∙ e
        | inr more ↦ said Greater (nat_cmp_is _ _ Greater more) ∙ nat_cmp_is _ _ Greater (below (kind_of b) (kind_of a) (digits_of_key b) (digits_of_key a) (length-digits_of_key b ∙ sym (length-digits_of_key a)) (key_base_11 b k) more) ∙ e
      ]
    ]

-- keys come as their ranks do, and where those are the same as the keys do
pub by_rank : (a b : RowKey) → IsOfDigits a → IsOfDigits b → ordering_then (nat_cmp (rank_of a) (rank_of b)) (key_cmp a b) ≡ key_cmp a b
by_rank a b h k = each (nat_cmp (rank_of a) (rank_of b)) refl
  where
    each : (o : Ordering) → nat_cmp (rank_of a) (rank_of b) ≡ o → ordering_then o (key_cmp a b) ≡ key_cmp a b
    each Less e = sym (ranks_decide a b h k Less e (λ q. absurd (cc)))
    each Equal e = refl
    each Greater e = sym (ranks_decide a b h k Greater e (λ q. absurd (cc)))
