use Rattle.std.proofs.Common.{length}
use Rattle.host_commands.proofs.serving_links.+has_fault.Given as goal

abbrev pub decreases-has_fault : goal.decreases-has_fault
decreases-has_fault g l = length l.seats.now
