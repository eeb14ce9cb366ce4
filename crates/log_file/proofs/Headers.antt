-- Headers that are another log's.
use Rattle.std.proofs.Common.{◌≡◌, ◌≢◌, ℕ, Bool, true, false, not, ◌≤◌, ◌+◌, List, ◌++◌, length, take, drop, refl, sym, ap, ◌∙◌, arith}
use Rattle.std.proofs.lemmas.List.{take-append-le, drop-append-le, drop-drop, length-append, length-drop}
use Rattle.std.specs.Str.{bytes_eq}
use Rattle.std.proofs.lemmas.Slice.Eq.{bytes_eq-Decides}
use Rattle.file_laws.specs.LogReading.{IsOfAnotherBook}
use Rattle.file_laws.specs.Texts.{log_letters, log_version}

pub field_before : (at size : ℕ) (bytes more : List ℕ) → at + size ≤ length bytes → take size (drop at (bytes ++ more)) ≡ take size (drop at bytes)
field_before at size bytes more long =
    let behind : drop at (bytes ++ more) ≡ drop at bytes ++ more = drop-append-le at bytes more (omega (arith, long)) in
    ap (take size) behind ∙ take-append-le size (drop at bytes) more (omega (arith, length-drop at bytes, long))

pub other_book : (book bytes more : List ℕ) → 38 ≤ length bytes → take 4 bytes ≡ log_letters → take 2 (drop 4 bytes) ≡ log_version → take 32 (drop 2 (drop 4 bytes)) ≢ book
    → IsOfAnotherBook book (bytes ++ more)
other_book book bytes more long letters version other = record {
  long = omega (arith, long, length-append bytes more);
  letters = field_before 0 4 bytes more (omega (arith, long)) ∙ letters;
  version = field_before 4 2 bytes more (omega (arith, long)) ∙ version;
  other = λ e. other (ap (take 32) (drop-drop 2 4 bytes) ∙ sym (field_before 6 32 bytes more (omega (arith, long))) ∙ e);
}

-- what `!=` found of two texts
not_false : (b : Bool) → false ≡ not b → b ≡ true
not_false true e = refl
not_false false e = absurd cc

not_true : (b : Bool) → true ≡ not b → b ≡ true → ⊥
not_true b e h = cc

pub same_found : (b : Bool) (xs ys : List ℕ) → b ≡ false → b ≡ not (bytes_eq xs ys) → xs ≡ ys
same_found b xs ys f is = (bytes_eq-Decides xs ys).0 (not_false (bytes_eq xs ys) (sym f ∙ is))

pub other_found : (b : Bool) (xs ys : List ℕ) → b ≡ true → b ≡ not (bytes_eq xs ys) → xs ≢ ys
other_found b xs ys t is e = not_true (bytes_eq xs ys) (sym t ∙ is) ((bytes_eq-Decides xs ys).1 e)
