use Rattle.std.proofs.Common.{length}
use Rattle.app_reasons.proofs.used_files.+words_of_used.Given as goal

abbrev pub decreases-words_of_used : goal.decreases-words_of_used
decreases-words_of_used g l = length l.used.now
