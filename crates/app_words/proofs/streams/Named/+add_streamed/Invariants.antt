use Rattle.std.proofs.Common.{length}
use Rattle.app_words.proofs.streams.Named.+add_streamed.Given as goal

abbrev pub decreases-add_streamed : goal.decreases-add_streamed
decreases-add_streamed l = length l.words.now
