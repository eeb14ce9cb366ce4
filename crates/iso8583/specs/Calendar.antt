-- Parts of dates and times in texts of digits.
use Rattle.std.specs.Prelude.{ℕ, ◌+◌, ◌-◌, ◌*◌, Bool, ◌&&◌, nat_le, List, slice_index, IsTrue, length, ◌≡◌}
use Rattle.iso8583.specs.Class.{IsDigits}

-- the number that the two digits from a place on stand for
abbrev pub two_digits : List ℕ → ℕ → ℕ
two_digits text place = 10 * (slice_index text place - 48) + (slice_index text (place + 1) - 48)

-- 01 to 12
abbrev pub is_month : ℕ → Bool
is_month n = nat_le 1 n && nat_le n 12

-- 01 to 31, whatever the month
abbrev pub is_day_of_month : ℕ → Bool
is_day_of_month n = nat_le 1 n && nat_le n 31

-- a text YYMMDD has a month from 01 to 12 and a day from 01 to 31
abbrev pub is_day : List ℕ → Bool
is_day text = is_month (two_digits text 2) && is_day_of_month (two_digits text 4)

-- a text YYMMDDhhmmss has, beside these, an hour to 23, and a minute and a second to 59
abbrev pub is_local_stamp : List ℕ → Bool
is_local_stamp text =
    is_day text && nat_le (two_digits text 6) 23 && nat_le (two_digits text 8) 59 && nat_le (two_digits text 10) 59

-- six digits YYMMDD
abbrev pub IsDay : List ℕ → Type 0
IsDay text = (length text ≡ 6) × IsDigits text × IsTrue (is_day text)

-- twelve digits YYMMDDhhmmss
abbrev pub IsLocalStamp : List ℕ → Type 0
IsLocalStamp text = (length text ≡ 12) × IsDigits text × IsTrue (is_local_stamp text)
