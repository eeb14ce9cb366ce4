use Rattle.std.proofs.Common.{length}
use Rattle.host_commands.proofs.links_words.+is_named.Given as goal

abbrev pub decreases-is_named : goal.decreases-is_named
decreases-is_named l = length l.links.now
