use Rattle.std.proofs.Common.{inl, codes}
use Rattle.app_parts.specs.Told.{done_line}
use Rattle.app_parts.proofs.Said.{said_or_not}
use Rattle.app_parts.proofs.telling.answer_join.Goals as goal

pub returns-in-Ok-clause-answered : goal.returns-in-Ok-clause-answered
returns-in-Ok-clause-answered g c =
    let count = c.in-Ok.count in
    inl (
      count,
      c.in-Ok.ensures.joined,
      c.in-Ok.ensures.outside,
      said_or_not (g.O.Write.contents c.args.out.now) (g.O.Write.contents c.say.new.out) (done_line (codes "joined") count) c.status_of.result c.say.result
          c.status_of.ensures.bound c.status_of.ensures.done c.say.ensures,
    )
