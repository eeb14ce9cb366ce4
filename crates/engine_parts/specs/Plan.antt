-- To which part each message of a batch belongs.
use Rattle.std.specs.Prelude.{ℕ, ◌<◌, List}
use Rattle.std.specs.List.{AllByRecursion}

-- how many parts there are, and the part of each message, in the order of arrival
pub record Planned : Type 0 where
  pub count : ℕ
  pub parts : List ℕ

-- each message is of one of the parts, of which there is one at least
pub record IsNumbered (planned : Planned) : Type 0 where
  pub some : 0 < planned.count
  pub below : AllByRecursion (λ part. part < planned.count) planned.parts
