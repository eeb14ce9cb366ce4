use Rattle.std.proofs.Common.{◌≡◌, List, ℕ, length}
use Rattle.log_file.specs.Reads.{HasRead}
use Rattle.log_replay.specs.Logged.{all_bodies}
use Rattle.log_replay.proofs.measuring.measure_log.Given as goal

-- so many bodies have the entries so far
abbrev pub invariant-loop : goal.invariant-loop
invariant-loop g l =
    (g.R.Source.is_known l.fn.source → g.R.Source.is_known l.reader.input.source)
    × (g.R.Source.may_fail l.reader.input.source → g.R.Source.may_fail l.fn.source)
    × (g.R.Source.is_known l.fn.source → (entries : List (List (List ℕ))) × (l.messages ≡ length (all_bodies entries))
    × HasRead g.R.Source.remaining l.digest (g.R.Source.remaining l.fn.source) entries l.reader)
