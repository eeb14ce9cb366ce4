use Rattle.std.proofs.Common.{length}
use Rattle.host_commands.proofs.links_words.+read_options.Given as goal

abbrev pub decreases-read_options : goal.decreases-read_options
decreases-read_options l = length l.words.now
