-- How a body begins. An MTI has four digits (ISO 8583): version 0 to 2, class 1 to 8, function 0 to 9, origin 0 to 5.
use Rattle.std.specs.Prelude.{ℕ, ◌+◌, ◌*◌, ◌/◌, ◌%◌, Bool, false, ◌&&◌, ◌||◌, ◌==◌, nat_lt, nat_le, List, ◌∷◌, length, Option, Some, None, if◌then◌else◌}
use Rattle.iso_shown.specs.declared.opening.Opening.{Opening}
use Rattle.iso_shown.specs.declared.opening.Opening.TheVariants.{Mti, LengthHeader, Tpdu, Ebcdic, Bcd}

-- the bytes begin with an MTI whose digit 0 is this byte
abbrev pub is_mti_from : ℕ → List ℕ → Bool
is_mti_from nought (version ∷ class ∷ function ∷ origin ∷ rest) =
    nat_le nought version && nat_lt version (nought + 3)
    && nat_lt nought class && nat_lt class (nought + 9)
    && nat_le nought function && nat_lt function (nought + 10)
    && nat_le nought origin && nat_lt origin (nought + 6)
is_mti_from nought _ = false

-- the bytes begin with an MTI of two bytes, with two digits in each
abbrev pub is_bcd_mti : List ℕ → Bool
is_bcd_mti (first ∷ second ∷ rest) =
    nat_lt (first / 16) 3 && nat_lt 0 (first % 16) && nat_lt (first % 16) 9 && nat_lt (second / 16) 10 && nat_lt (second % 16) 6
is_bcd_mti _ = false

-- two bytes say how many bytes follow, which begin with an MTI in ASCII
abbrev pub has_own_length : List ℕ → Bool
has_own_length (high ∷ low ∷ rest) = ((256 * high + low) == length rest) && is_mti_from 48 rest
has_own_length _ = false

-- a TPDU, five bytes of which the first is hexadecimal 60, and an MTI in ASCII or BCD
abbrev pub is_tpdu : List ℕ → Bool
is_tpdu (id ∷ a ∷ b ∷ c ∷ d ∷ rest) = (id == 96) && (is_mti_from 48 rest || is_bcd_mti rest)
is_tpdu _ = false

-- how a body begins; ASCII digits begin at 48, EBCDIC digits at 240
abbrev pub opening_of : List ℕ → Option Opening
opening_of body =
    if is_mti_from 48 body then Some Mti
    else (if has_own_length body then Some LengthHeader
    else (if is_tpdu body then Some Tpdu
    else (if is_mti_from 240 body then Some Ebcdic
    else (if is_bcd_mti body then Some Bcd else None))))
