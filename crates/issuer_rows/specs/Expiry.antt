-- The month in which a card expires.
use Rattle.std.specs.Prelude.{◌≡◌, ℕ, List, length, IsTrue, drop}
use Rattle.iso8583.specs.Calendar.{is_month}
use Rattle.iso8583.specs.Class.{IsDigits}
use Rattle.iso8583.specs.Number.{number_of}

-- four digits YYMM with a month from 01 to 12
abbrev pub IsExpiry : List ℕ → Type 0
IsExpiry text = (length text ≡ 4) × IsDigits text × IsTrue (is_month (number_of (drop 2 text)))
