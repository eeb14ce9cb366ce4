use Rattle.std.proofs.Common.{◌<◌, ◌+◌, length, sym, subst, ap, ◌∙◌, arith}
use Rattle.std.proofs.lemmas.Bool.{false≢true}
use Rattle.stm_memory.specs.declared.version.Version.{Version}
use Rattle.stm_scheduler.specs.Cursors.{Chooses, Validations, PassesValidation, Executes, PassesExecution, Nothing}
use Rattle.stm_scheduler.specs.declared.task.Task.TheVariants as task
use Rattle.stm_scheduler.proofs.choice.choose.Goals as goal
use Rattle.stm_scheduler.proofs.choice.choose.Goals.{then-validated-next, else-validated-next+then-next-marks}

pub returns-then-is_open-clause-chooses : goal.returns-then-is_open-clause-chooses
returns-then-is_open-clause-chooses c b marks committed =
    c.loop-validated.invariant.leads b marks committed _ _ _
    (subst (λ (v : Version). Chooses b c.loop-validated.next c.loop-validated.validated (task.Validate v) c.loop-validated.next (c.loop-validated.validated + 1)) (sym (c.present_version.ensures b marks))
    (Validations c.loop-validated.next c.loop-validated.validated c.if-validated-next-2.true ((c.is_open.ensures b marks committed).0 c.if-is_open.true)))

pub loop-validated-preserved-then-validated-next-2 : goal.loop-validated-preserved-then-validated-next-2
loop-validated-preserved-then-validated-next-2 c =
    let l = c.if-validated-next-2.true in
    let within = c.loop-validated.invariant.next in
    record {
      next = c.loop-validated.invariant.next;
      validated = omega arith;
      leads = λ b marks committed answer e v h. c.loop-validated.invariant.leads b marks committed answer e v (PassesValidation c.loop-validated.next c.loop-validated.validated answer e v l (λ o. false≢true (sym c.if-is_open.false ∙ (c.is_open.ensures b marks committed).1 o)) h);
    }

pub returns-then-is_ready-clause-chooses : goal.returns-then-is_ready-clause-chooses
returns-then-is_ready-clause-chooses c b marks committed =
    let l = c.if-validated-next-2.false in
    c.loop-validated.invariant.leads b marks committed _ _ _
    (subst (λ (v : Version). Chooses b c.loop-validated.next c.loop-validated.validated (task.Execute v) (c.loop-validated.next + 1) c.loop-validated.validated) (sym (c.present_version-then-is_ready.ensures b marks))
    (Executes c.loop-validated.next c.loop-validated.validated (omega arith) ((c.is_ready.ensures b marks).0 c.if-is_ready.true)))

pub loop-validated-preserved : goal.loop-validated-preserved
loop-validated-preserved c =
    let l = c.if-validated-next-2.false in
    let there : c.loop-validated.next < length c.args.marks.now = elim c.if-validated-next.branch [
      | then-validated-next w ↦ let more = w.if-validated-next.true in absurd (omega arith)
      | else-validated-next+then-next-marks w ↦ w.if-next-marks.true
    ] in
    record {
      next = omega arith;
      validated = c.loop-validated.invariant.validated;
      leads = λ b marks committed answer e v h. c.loop-validated.invariant.leads b marks committed answer e v (PassesExecution c.loop-validated.next c.loop-validated.validated answer e v (omega arith) (let same = ap length marks in omega arith) (λ r. false≢true (sym c.if-is_ready.false ∙ (c.is_ready.ensures b marks).1 r)) h);
    }

pub returns-clause-chooses : goal.returns-clause-chooses
returns-clause-chooses c b marks committed =
    c.loop-validated.invariant.leads b marks committed _ _ _ (Nothing c.loop-validated.next c.loop-validated.validated c.if-validated-next.false (let same = ap length marks in let end = c.if-next-marks.false in omega arith))
