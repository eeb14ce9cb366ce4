use Rattle.std.proofs.Common.{sym, subst}
use Rattle.stm_core_laws.specs.Play.{Play}
use Rattle.stm_journal.specs.Finished.{IsFinished}
use Rattle.stm_journal_text.specs.Plays.{IsPlayed}
use Rattle.engine_locked.proofs.running.run_traced.Goals as goal

pub returns-clause-journal : goal.returns-clause-journal
returns-clause-journal g c =
    let entries = c.into_parts-core.result.1.items in
    let same = c.into_parts-core.ensures in
    c.in_ok-outcome.ensures.journal entries
    (subst (λ (p : Play). IsPlayed p entries) (sym same.core) (subst (IsPlayed c.in_ok-traced.traced.core) (sym same.entries) same.played))
    (subst (λ (p : Play). IsFinished p entries) (sym same.core) (subst (IsFinished c.in_ok-traced.traced.core) (sym same.entries) c.in_ok-traced.ensures.finished))
