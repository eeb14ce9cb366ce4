use Rattle.std.proofs.Common.{ap, option_map, refl, sym, ◌∙◌, subst, take_all, arith}
use Rattle.stm_core.proofs.Resolving.{AreLogged-more}
use Rattle.stm_core_laws.specs.Log.{AreLogged}
use Rattle.stm_core_laws.specs.declared.logged.Logged.{Logged}
use Rattle.stm_core.proofs.log.Log.has_logged.Goals as goal

pub loop-index-preserved : goal.loop-index-preserved
loop-index-preserved c =
    AreLogged-more c.args.self.now c.args.reads.now c.loop-index.index (c.row.result.0.now, c.row.result.1.now) c.row.ensures.entry c.loop-index.invariant
    (ap (option_map (λ (l : Logged). l.value)) (sym c.find.ensures.value) ∙ c.is_answer.ensures.0 c.if-not-is_answer.false)

pub returns : goal.returns
returns c =
    (λ _. subst (AreLogged c.args.self.now) (take_all c.loop-index.index c.args.reads.now (omega arith)) c.loop-index.invariant, λ _. refl)
