use Rattle.std.proofs.Common.{length}
use Rattle.app_words.proofs.streams.+count_names.Given as goal

abbrev pub decreases-count_names : goal.decreases-count_names
decreases-count_names l = length l.words.now
