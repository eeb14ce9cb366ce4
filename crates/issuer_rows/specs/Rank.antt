-- The order of rows, and a number that rises with a row's key, by which most rows are put in order without a look at their keys.
use Rattle.std.specs.Prelude.{Bool, ℕ, zero, suc, ◌+◌, ◌-◌, ◌*◌, ◌≤◌, List, [], ◌∷◌, ◌++◌, length, ⊤}
use Rattle.std.specs.Ordering.{on}
use Rattle.std.specs.declared.cmp.Ordering.{Ordering}
use Rattle.iso8583.specs.Class.{IsDigits}
use Rattle.issuer_rows.specs.RowKey.{key_cmp, key_eq, kind_of}
use Rattle.issuer_rows.specs.declared.row_key.RowKey.{RowKey}
use Rattle.issuer_rows.specs.declared.row_key.RowKey.TheVariants as key
use Rattle.issuer_rows.specs.declared.row_val.RowVal.{RowVal}

-- rows are in the order of their keys
abbrev pub row_cmp : RowKey × RowVal → RowKey × RowVal → Ordering
row_cmp = on (λ row. row.0) key_cmp

-- whether two rows have the same key
abbrev pub row_eq : RowKey × RowVal → RowKey × RowVal → Bool
row_eq = on (λ row. row.0) key_eq

-- so many digits to the base 11: 1 to 10 for the first digits of a text, and 0 behind its end
abbrev pub digits_of : ℕ → List ℕ → List ℕ
digits_of zero text = []
digits_of (suc count) [] = 0 ∷ digits_of count []
digits_of (suc count) (c ∷ text) = (c - 47) ∷ digits_of count text

-- the number with further digits to the base 11
abbrev pub with_digits : ℕ → List ℕ → ℕ
with_digits number [] = number
with_digits number (digit ∷ digits) = with_digits (number * 11 + digit) digits

-- the 17 digits of a key: those of an acquirer and a trace number, or of a card number or its prefix; a name of an account has none
abbrev pub digits_of_key : RowKey → List ℕ
digits_of_key (key.Card pan) = digits_of 17 pan.0
digits_of_key (key.Velocity pan day) = digits_of 17 pan.0
digits_of_key (key.Budget prefix) = digits_of 17 prefix.0
digits_of_key (key.Original identity) = digits_of 11 identity.acquirer.0 ++ digits_of 6 identity.stan.0
digits_of_key (key.Account id) = digits_of 17 []

-- a key's rank: its kind, and behind it its digits
abbrev pub rank_of : RowKey → ℕ
rank_of k = with_digits (kind_of k) (digits_of_key k)

-- what a rank is made of are digits, and an acquirer is in it as a whole
abbrev pub IsOfDigits : RowKey → Type 0
IsOfDigits (key.Card pan) = IsDigits pan.0
IsOfDigits (key.Velocity pan day) = IsDigits pan.0
IsOfDigits (key.Budget prefix) = IsDigits prefix.0
IsOfDigits (key.Original identity) = (length identity.acquirer.0 ≤ 11) × IsDigits identity.acquirer.0 × IsDigits identity.stan.0
IsOfDigits (key.Account id) = ⊤
