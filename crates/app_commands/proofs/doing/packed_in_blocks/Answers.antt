use Rattle.std.proofs.Common.{sym}
use Rattle.std.proofs.lemmas.List.{length-map}
use Rattle.app_commands.proofs.doing.packed_in_blocks.Goals as goal

pub returns-clause-done : goal.returns-clause-done
returns-clause-done g c = (c.in_ok-bodies.ensures.packed, sym (length-map _ _))
