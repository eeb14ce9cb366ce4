-- Element 56 cut into its parts, and joined again.
use Rattle.std.proofs.Common.{◌≡◌, ℕ, ◌+◌, ◌-◌, Bool, true, false, cond, eqb, List, ◌++◌, length, take, drop, refl, sym, ◌∙◌, append_assoc, arith}
use Rattle.std.specs.Prelude.{codes, ◌&&◌, ◌||◌, IsTrue}
use Rattle.std.specs.Char.{is_ascii_digit}
use Rattle.std.specs.Str.{bytes_eq}
use Rattle.std.proofs.lemmas.Bool.{eqb-true}
use Rattle.std.proofs.lemmas.List.{take_at, drop_at, length-append, take-append-drop, drop-drop, length-take-le, length-drop}
use Rattle.std.proofs.lemmas.List.Folds.{list_all-append}
use Rattle.std.proofs.lemmas.Slice.Eq.{bytes_eq-Decides}
use Rattle.iso8583.specs.Class.{is_digits}
use Rattle.iso8583.specs.Calendar.{is_local_stamp}
use Rattle.iso8583.specs.Number.{number_of, fixed_digits}
use Rattle.iso8583.proofs.NumberLaws.{length-fixed_digits, number_of-fixed_digits, fixed_digits-number_of, is_digits-fixed_digits, is_digits-append, is_digits-take}
use Rattle.iso8583.specs.declared.original_kind.OriginalKind.{OriginalKind}
use Rattle.iso8583.specs.declared.original_kind.OriginalKind.TheVariants as kind
use Rattle.iso8583.specs.declared.original_ref.OriginalRef.{OriginalRef}
use Rattle.iso_laws.specs.declared.element.Element.TheVariants as element
use Rattle.iso_laws.specs.Elements.{IsText, original_type, is_original_type, original_text, is_original}
use Rattle.iso_laws.specs.Messages.{IsOriginal, type_kind, type_repeat, original_from}
use Rattle.iso_laws.proofs.Conjunctions.{all_three_true}

-- five pieces, the first four of them of 4, 6, 12 and 2 bytes
module _ (a b c d e : List ℕ) (la : length a ≡ 4) (lb : length b ≡ 6) (lc : length c ≡ 12) (ld : length d ≡ 2) where
  abbrev pub whole : List ℕ
  whole = (((a ++ b) ++ c) ++ d) ++ e

  pub cut-type : take 4 whole ≡ a
  cut-type =
      let grouped : whole ≡ a ++ (b ++ (c ++ (d ++ e))) = simp append_assoc in
      rw grouped (take_at a (b ++ (c ++ (d ++ e))) 4 la)

  pub cut-stan : take 6 (drop 4 whole) ≡ b
  cut-stan =
      let grouped : whole ≡ a ++ (b ++ (c ++ (d ++ e))) = simp append_assoc in
      rw (grouped, drop_at a (b ++ (c ++ (d ++ e))) 4 la) (take_at b (c ++ (d ++ e)) 6 lb)

  pub cut-stamp : take 12 (drop 10 whole) ≡ c
  cut-stamp =
      let grouped : whole ≡ (a ++ b) ++ (c ++ (d ++ e)) = simp append_assoc in
      rw (grouped, drop_at (a ++ b) (c ++ (d ++ e)) 10 (omega (arith, length-append a b))) (take_at c (d ++ e) 12 lc)

  pub cut-length : take 2 (drop 22 whole) ≡ d
  cut-length =
      let grouped : whole ≡ ((a ++ b) ++ c) ++ (d ++ e) = simp append_assoc in
      rw (grouped, drop_at ((a ++ b) ++ c) (d ++ e) 22 (omega (arith, length-append a b, length-append (a ++ b) c))) (take_at d e 2 ld)

  pub front_length : length (((a ++ b) ++ c) ++ d) ≡ 24
  front_length = omega (arith, length-append a b, length-append (a ++ b) c, length-append ((a ++ b) ++ c) d)

  pub cut-acquirer : drop 24 whole ≡ e
  cut-acquirer = drop_at (((a ++ b) ++ c) ++ d) e 24 front_length

  pub whole_length : length whole ≡ 24 + length e
  whole_length = omega (arith, length-append (((a ++ b) ++ c) ++ d) e, front_length)

pub length-original_type : (k : OriginalKind) (repeat : Bool) → length (original_type k repeat) ≡ 4
length-original_type kind.Request false = refl
length-original_type kind.Request true = refl
length-original_type kind.Advice false = refl
length-original_type kind.Advice true = refl

is_digits-original_type : (k : OriginalKind) (repeat : Bool) → is_digits (original_type k repeat) ≡ true
is_digits-original_type kind.Request false = refl
is_digits-original_type kind.Request true = refl
is_digits-original_type kind.Advice false = refl
is_digits-original_type kind.Advice true = refl

is_type-original_type : (k : OriginalKind) (repeat : Bool) → is_original_type (original_type k repeat) ≡ true
unfolding is_original_type
is_type-original_type kind.Request false = refl
is_type-original_type kind.Request true = refl
is_type-original_type kind.Advice false = refl
is_type-original_type kind.Advice true = refl

same_numbers : (m n : ℕ) → m ≡ n → eqb m n ≡ true
same_numbers m n h = grind arith

-- the text of a reference passes the tests of element 56
pub original_is_text : (o : OriginalRef) → IsOriginal o → IsText element.Original (original_text o)
unfolding original_text is_original
original_is_text o h =
    let a = original_type o.kind o.repeat in
    let b = o.identity.stan.0 in
    let c = o.identity.stamp in
    let e = o.identity.acquirer.0 in
    let d = fixed_digits 2 (length o.identity.acquirer.0) in
    let la = length-original_type o.kind o.repeat in
    let ld = length-fixed_digits 2 (length o.identity.acquirer.0) in
    let size = whole_length (original_type o.kind o.repeat) o.identity.stan.0 o.identity.stamp (fixed_digits 2 (length o.identity.acquirer.0)) o.identity.acquirer.0 la h.stan.0 h.stamp.0 ld in
    let number : number_of d ≡ length e = number_of-fixed_digits 2 (length o.identity.acquirer.0) (omega (arith, h.acquirer.0)) in
    let inner : eqb (number_of d) (length (whole a b c d e la h.stan.0 h.stamp.0 ld) - 24) ≡ true = same_numbers _ _ (omega (arith, number, size)) in
    let digits : is_digits ((((a ++ b) ++ c) ++ d) ++ e) ≡ true =
    is_digits-append (((a ++ b) ++ c) ++ d) e (is_digits-append ((a ++ b) ++ c) d (is_digits-append (a ++ b) c (is_digits-append a b (is_digits-original_type o.kind o.repeat) h.stan.1) h.stamp.1) (is_digits-fixed_digits 2 (length o.identity.acquirer.0))) h.acquirer.1 in
    let stamp : is_local_stamp o.identity.stamp ≡ true = h.stamp.2 in (
      (omega (arith, size, h.acquirer.0), omega (arith, size, h.acquirer.0)),
      digits,
      rw (
        cut-type a b c d e la h.stan.0 h.stamp.0 ld,
        cut-stamp a b c d e la h.stan.0 h.stamp.0 ld,
        cut-length a b c d e la h.stan.0 h.stamp.0 ld,
        is_type-original_type o.kind o.repeat,
        stamp,
      ) inner,
    )

-- ---- a reference from its text

type_again : (k : OriginalKind) (repeat : Bool) → (type_kind (original_type k repeat) ≡ k) × (type_repeat (original_type k repeat) ≡ repeat)
type_again kind.Request false = (refl, refl)
type_again kind.Request true = (refl, refl)
type_again kind.Advice false = (refl, refl)
type_again kind.Advice true = (refl, refl)

pub original_again : (o : OriginalRef) → IsOriginal o → original_from (original_text o) ≡ o
unfolding original_text
original_again o h =
    let a = original_type o.kind o.repeat in
    let b = o.identity.stan.0 in
    let c = o.identity.stamp in
    let e = o.identity.acquirer.0 in
    let d = fixed_digits 2 (length o.identity.acquirer.0) in
    let la = length-original_type o.kind o.repeat in
    let ld = length-fixed_digits 2 (length o.identity.acquirer.0) in
    let type = type_again o.kind o.repeat in
    rw (
      cut-type a b c d e la h.stan.0 h.stamp.0 ld,
      cut-stan a b c d e la h.stan.0 h.stamp.0 ld,
      cut-stamp a b c d e la h.stan.0 h.stamp.0 ld,
      cut-acquirer a b c d e la h.stan.0 h.stamp.0 ld,
      type.0,
      type.1,
    ) refl

-- ---- and back

right_true : (a b : Bool) → (a && b) ≡ true → b ≡ true
right_true true b h = h
right_true false b h = absurd cc

pub is_digits-drop : (n : ℕ) (text : List ℕ) → is_digits text ≡ true → is_digits (drop n text) ≡ true
is_digits-drop n text h =
    let whole : is_digits (take n text ++ drop n text) ≡ true = rw (take-append-drop n text) h in
    right_true _ _ (sym (list_all-append is_ascii_digit (take n text) (drop n text)) ∙ whole)

pub digits_cut : (n i : ℕ) (text : List ℕ) → is_digits text ≡ true → is_digits (take n (drop i text)) ≡ true
digits_cut n i text h = is_digits-take n (drop i text) (is_digits-drop i text h)

-- the parts of element 56
pub original_cut : (text : List ℕ) → IsText element.Original text
    → IsTrue (is_original_type (take 4 text)) × IsText element.Stan (take 6 (drop 4 text)) × IsText element.Stamp (take 12 (drop 10 text)) × IsText element.Acquirer (drop 24 text)
unfolding is_original
original_cut text h =
    let tests = all_three_true (is_original_type (take 4 text)) (is_local_stamp (take 12 (drop 10 text))) (eqb (number_of (take 2 (drop 22 text))) (length text - 24)) h.2 in
    let stan : length (take 6 (drop 4 text)) ≡ 6 = length-take-le 6 (drop 4 text) (omega (arith, h.0, length-drop 4 text)) in
    let stamp : length (take 12 (drop 10 text)) ≡ 12 = length-take-le 12 (drop 10 text) (omega (arith, h.0, length-drop 10 text)) in
    let rest = length-drop 24 text in (
      tests.0,
      (stan, digits_cut 6 4 text h.1, refl),
      (stamp, digits_cut 12 10 text h.1, tests.1),
      ((omega (arith, h.0, rest), omega (arith, h.0, rest)), is_digits-drop 24 text h.1, refl),
    )

inner_length : (text : List ℕ) → IsText element.Original text → fixed_digits 2 (length (drop 24 text)) ≡ take 2 (drop 22 text)
unfolding is_original
inner_length text h =
    let tests = all_three_true (is_original_type (take 4 text)) (is_local_stamp (take 12 (drop 10 text))) (eqb (number_of (take 2 (drop 22 text))) (length text - 24)) h.2 in
    let number : number_of (take 2 (drop 22 text)) ≡ length text - 24 = eqb-true _ _ tests.2 in
    let size : length (take 2 (drop 22 text)) ≡ 2 = length-take-le 2 (drop 22 text) (omega (arith, h.0, length-drop 22 text)) in
    rw (length-drop 24 text, ← number) (fixed_digits-number_of 2 (take 2 (drop 22 text)) size (digits_cut 2 22 text h.1))

next_cut : (n m : ℕ) (text : List ℕ) → take m (drop n text) ++ drop (n + m) text ≡ drop n text
next_cut n m text = rw (← drop-drop m n text) (take-append-drop m (drop n text))

all_cuts : (text : List ℕ) → (((take 4 text ++ take 6 (drop 4 text)) ++ take 12 (drop 10 text)) ++ take 2 (drop 22 text)) ++ drop 24 text ≡ text
all_cuts text =
    let one : take 2 (drop 22 text) ++ drop 24 text ≡ drop 22 text = next_cut 22 2 text in
    let two : take 12 (drop 10 text) ++ drop 22 text ≡ drop 10 text = next_cut 10 12 text in
    let three : take 6 (drop 4 text) ++ drop 10 text ≡ drop 4 text = next_cut 4 6 text in
    simp append_assoc (rw (one, two, three) (take-append-drop 4 text))

equal_texts : (xs ys : List ℕ) → bytes_eq xs ys ≡ true → ys ≡ xs
equal_texts xs ys h = sym ((bytes_eq-Decides xs ys).0 h)

type_from : (text : List ℕ) → is_original_type text ≡ true → original_type (type_kind text) (type_repeat text) ≡ text
unfolding is_original_type
type_from text h =
    elim (bytes_eq text (codes "1100")) as (λ a. bytes_eq text (codes "1100") ≡ a → (a || bytes_eq text (codes "1101") || bytes_eq text (codes "1120") || bytes_eq text (codes "1121")) ≡ true
    → original_type (cond a kind.Request (cond (bytes_eq text (codes "1101")) kind.Request kind.Advice)) (cond a false (cond (bytes_eq text (codes "1101")) true (cond (bytes_eq text (codes "1120")) false true))) ≡ text) [
      | true ↦ λ e _. equal_texts text (codes "1100") e
      | false ↦ λ _ k. elim (bytes_eq text (codes "1101")) as (λ a. bytes_eq text (codes "1101") ≡ a → (a || bytes_eq text (codes "1120") || bytes_eq text (codes "1121")) ≡ true
          → original_type (cond a kind.Request kind.Advice) (cond a true (cond (bytes_eq text (codes "1120")) false true)) ≡ text) [
            | true ↦ λ e _. equal_texts text (codes "1101") e
            | false ↦ λ _ l. elim (bytes_eq text (codes "1120")) as (λ a. bytes_eq text (codes "1120") ≡ a → (a || bytes_eq text (codes "1121")) ≡ true → original_type kind.Advice (cond a false true) ≡ text) [
              | true ↦ λ e _. equal_texts text (codes "1120") e
              | false ↦ λ _ m. equal_texts text (codes "1121") m
            ] refl l
          ] refl k
    ] refl h

pub original_text_from : (text : List ℕ) → IsText element.Original text → original_text (original_from text) ≡ text
unfolding original_text
original_text_from text h = rw (type_from (take 4 text) (original_cut text h).0, inner_length text h) (all_cuts text)

pub is_original_from : (text : List ℕ) → IsText element.Original text → IsOriginal (original_from text)
is_original_from text h =
    let parts = original_cut text h in
    record { stan = parts.1; stamp = parts.2; acquirer = parts.3 }
