-- How far a file is read, and what follows for the whole of it, in whole numbers that are rounded down.
use Rattle.std.specs.Prelude.{ℕ, ◌-◌, ◌*◌, ◌/◌, ◌&&◌, nat_le, nat_lt, if◌then◌else◌, List, ◌++◌, Option, Some, None, codes, decimal}
use Rattle.switch.specs.declared.advance.Advance.{Advance}
use Rattle.switch.specs.declared.estimate.Estimate.{Estimate}

-- how much is read, in per cent: all of it, where the file has no more
abbrev pub percent_of : ℕ → ℕ → ℕ
percent_of read whole = if nat_le whole read then 100 else read * 100 / whole

-- in how many seconds the rest is read, if it is read as fast as what was read in so many: none, where nothing is left
abbrev pub left_of : ℕ → ℕ → ℕ → ℕ
left_of read seconds whole = (whole - read) * seconds / read

-- the same and the bytes a second, of a file of so many bytes
abbrev pub estimated : ℕ → ℕ → ℕ → Estimate
estimated read seconds whole =
    record { whole = whole; percent = percent_of read whole; rate = read / seconds; left = left_of read seconds whole }

-- where the size is known
abbrev estimate_in : ℕ → ℕ → Option ℕ → Option Estimate
estimate_in read seconds None = None
estimate_in read seconds (Some whole) = if nat_lt 0 read && nat_lt 0 seconds then Some (estimated read seconds whole) else None

-- what follows: nothing where the size isn't known, before something is read, and within the first second
abbrev pub estimate_of : Advance → Option Estimate
estimate_of advance = estimate_in advance.read advance.seconds advance.whole

-- mebibytes
abbrev pub mebibytes : ℕ → List ℕ
mebibytes bytes = decimal (bytes / 1048576)

-- with what follows, or without
abbrev pub words_of : Advance → Option Estimate → List ℕ
words_of advance (Some estimate) =
    codes "read " ++ (mebibytes advance.read ++ (codes " of " ++ (mebibytes estimate.whole ++ (codes " MiB, " ++ (decimal estimate.percent ++ (codes " %, in "
    ++ (decimal advance.seconds ++ (codes " s, " ++ (mebibytes estimate.rate ++ (codes " MiB/s, " ++ (decimal estimate.left ++ codes " s left")))))))))))
words_of advance None = codes "read " ++ (mebibytes advance.read ++ (codes " MiB in " ++ (decimal advance.seconds ++ codes " s")))

-- what a person is told
abbrev pub advance_words : Advance → List ℕ
advance_words advance = words_of advance (estimate_of advance)
