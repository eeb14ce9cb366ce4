-- How many bodies came, and how many of them are no message.
use Rattle.std.specs.Prelude.{ℕ, ◌+◌, ◌-◌, ◌^◌, min, List, [], ◌∷◌}
use Rattle.issuer_rows.specs.declared.frame.Frame.{Frame}
use Rattle.issuer_rows.specs.declared.frame.Frame.TheVariants.{Good, Bad}
use Rattle.host_serving.specs.declared.tally.Tally.{Tally}

-- one more; a count that is at its greatest number stays
abbrev pub one_more : ℕ → ℕ
one_more count = min (count + 1) (2 ^ 64 - 1)

-- one body more
abbrev pub counted_one : Tally → Frame → Tally
counted_one tally (Good message) = record { bodies = one_more tally.bodies; unreadable = tally.unreadable }
counted_one tally (Bad fault) = record { bodies = one_more tally.bodies; unreadable = one_more tally.unreadable }

-- all of them
abbrev pub counted : Tally → List Frame → Tally
counted tally [] = tally
counted tally (frame ∷ frames) = counted (counted_one tally frame) frames
