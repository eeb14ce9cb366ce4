use Rattle.std.proofs.Common.{length}
use Rattle.app_parts.proofs.telling.+add_lines.Given as goal

abbrev pub decreases-add_lines : goal.decreases-add_lines
decreases-add_lines l = length l.counts.now
