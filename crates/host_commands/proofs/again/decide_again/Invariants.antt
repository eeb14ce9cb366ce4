use Rattle.std.proofs.Common.{ℕ, List, []}
use Rattle.log_file.specs.Reads.{HasRead}
use Rattle.host_commands.specs.Again.{IsUnderWay}
use Rattle.host_commands.proofs.again.decide_again.Given as goal

-- some first entries were read and decided
abbrev pub invariant-loop : goal.invariant-loop
invariant-loop g l = (digest bytes : List ℕ) → g.R.Source.is_known l.fn.reader.input.source → HasRead g.R.Source.remaining digest bytes [] l.fn.reader
    → IsUnderWay g.R.Source.is_known g.R.Source.remaining digest bytes l.reader l.fn.decider l.decider
