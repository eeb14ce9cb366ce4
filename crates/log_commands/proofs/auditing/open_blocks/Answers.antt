use Rattle.log_commands.proofs.Audits.{few_each}
use Rattle.log_commands.proofs.auditing.open_blocks.Goals as goal

pub returns-clause-each : goal.returns-clause-each
returns-clause-each g c = few_each c.in_ok-blocks.blocks.items c.in_ok-blocks.ensures.blocks.1.cut
