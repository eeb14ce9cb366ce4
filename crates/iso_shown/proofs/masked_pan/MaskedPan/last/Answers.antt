use Rattle.std.proofs.Common.{◌≡◌, ℕ, ◌-◌, Bool, List, ◌++◌, true, false, length, take, drop, arith, sym, ◌∙◌}
use Rattle.std.specs.Prelude.{◌&&◌}
use Rattle.std.specs.Char.{is_ascii_digit}
use Rattle.std.proofs.lemmas.List.{take-append-drop}
use Rattle.std.proofs.lemmas.List.Folds.{list_all-append}
use Rattle.iso8583.specs.Class.{is_digits}
use Rattle.iso_shown.proofs.masked_pan.MaskedPan.last.Goals as goal

second_of : (a b : Bool) → (a && b) ≡ true → b ≡ true
second_of true b both = both
second_of false b both = absurd cc

digits_behind : (n : ℕ) (text : List ℕ) → is_digits text ≡ true → is_digits (drop n text) ≡ true
digits_behind n text are =
    let whole : is_digits (take n text ++ drop n text) ≡ true = rw (take-append-drop n text) are in
    second_of _ _ (sym (list_all-append is_ascii_digit (take n text) (drop n text)) ∙ whole)

pub of_text-requires : goal.of_text-requires
of_text-requires c =
    let digits = c.as_slice-digits.result.now in
    let are = c.as_slice-digits.ensures.digits in
    (omega arith, (omega (arith, c.split_at.ensures.back_len, are.0), rw c.split_at.ensures.back (digits_behind (length digits - 4) digits are.2)))
