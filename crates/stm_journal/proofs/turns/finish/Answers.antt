use Rattle.std.proofs.Common.{sym, subst}
use Rattle.stm_journal.proofs.Turning.{finish_turn}
use Rattle.stm_journal.proofs.turns.finish.Goals as goal
use Rattle.stm_journal.specs.Turns.{HasTurned}
use Rattle.stm_journal.specs.declared.holding.Holding.{Holding}
use Rattle.stm_journal.specs.declared.holding.Holding.TheVariants as holds

pub returns : goal.returns
returns c =
    subst (λ (next : Holding). HasTurned c.args.traced.now c.args.seat (holds.Execution c.args.version) next c.finish-answer.new.self) (sym c.then_holds.ensures)
    (finish_turn c.args.traced.now c.finish-answer.new.self c.args.seat c.args.version c.args.execution c.finish-answer.result c.requires.frame c.requires.keys c.requires.agrees c.requires.logged
    c.finish-answer.ensures.answer c.finish-answer.ensures.step.entries c.in_ok-had_room.ensures)
