-- Parts of a text of digits, and of element 56.
use Rattle.std.proofs.Common.{◌≡◌, ℕ, Bool, true, false, List, ◌++◌, take, drop, sym, ◌∙◌}
use Rattle.std.specs.Prelude.{◌&&◌}
use Rattle.std.specs.Char.{is_ascii_digit}
use Rattle.std.proofs.lemmas.List.{take-append-drop}
use Rattle.std.proofs.lemmas.List.Folds.{list_all-append}
use Rattle.iso8583.specs.Class.{is_digits}
use Rattle.iso8583.proofs.NumberLaws.{is_digits-take}

right_true : (a b : Bool) → (a && b) ≡ true → b ≡ true
right_true true b h = h
right_true false b h = absurd cc

pub is_digits-drop : (n : ℕ) (text : List ℕ) → is_digits text ≡ true → is_digits (drop n text) ≡ true
is_digits-drop n text h =
    let whole : is_digits (take n text ++ drop n text) ≡ true = rw (take-append-drop n text) h in
    right_true _ _ (sym (list_all-append is_ascii_digit (take n text) (drop n text)) ∙ whole)

pub digits_cut : (n i : ℕ) (text : List ℕ) → is_digits text ≡ true → is_digits (take n (drop i text)) ≡ true
digits_cut n i text h = is_digits-take n (drop i text) (is_digits-drop i text h)
