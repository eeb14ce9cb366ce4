-- What is shown of a card number.
use Rattle.std.specs.Prelude.{ℕ, ◌-◌, List, ◌++◌, length, take, drop, replicate}

-- the first six digits, a star for each digit between, and the last four
abbrev pub masked : List ℕ → List ℕ
masked digits = take 6 digits ++ (replicate (length digits - 10) 42 ++ drop (length digits - 4) digits)
