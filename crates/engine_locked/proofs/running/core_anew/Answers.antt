use Rattle.std.proofs.Common.{sym, subst}
use Rattle.engine_locked.specs.Journals.{IsSomeEnd}
use Rattle.engine_locked.proofs.running.core_anew.Goals as goal

pub returns-in-Ok-clause-finished : goal.returns-in-Ok-clause-finished
returns-in-Ok-clause-finished g c =
    let same = c.into_parts-core.ensures in
    subst IsSomeEnd (sym same.core) (record { entries = c.in-Ok.traced.entries; played = same.played; finished = c.in-Ok.ensures.finished })
