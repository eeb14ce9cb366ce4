use Rattle.std.proofs.Common.{set, Ok, arith}
use Rattle.stm_core_laws.specs.Run.{Block}
use Rattle.stm_core.proofs.Steps.{block_step, play, sound_kept}
use Rattle.stm_core.specs.contracts.speculative.Core.{the_view}
use Rattle.stm_core.proofs.speculative.Core.block.Goals as goal

pub block-requires-clause-left : goal.block-requires-clause-left
block-requires-clause-left c =
    let bound = (c.self.invariant.holds.messages c.args.version.index).incarnation in
    let running = (c.is_running.ensures.running.0 c.if-not-is_running.false).1 in
    let left = c.if-version-self.false in
    omega arith

pub invariant_of-self : goal.invariant_of-self
invariant_of-self c =
    sound_kept (the_view c.self.inside) (Block c.args.version c.args.on (Ok tt))
    (play (record (the_view c.self.inside).state { board = c.block.new.self.board; slots = set c.self.inside.slots.items c.args.version.index c.clear.new.self }) c.block.new.self.execution c.block.new.self.validation)
    c.self.invariant
    (block_step (the_view c.self.inside).state c.self.inside.scheduler.execution c.self.inside.scheduler.validation c.args.version c.args.on c.block.new.self c.clear.new.self
    (c.is_running.ensures.running.0 c.if-not-is_running.false) c.if-version-self.false c.block.ensures.waits c.block.ensures.ready c.clear.ensures)
