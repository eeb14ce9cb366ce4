use Rattle.std.proofs.Common.{refl}
use Rattle.std.specs.FinMap as map
use Rattle.split_state.proofs.AgreementLaws.{one_less_left}
use Rattle.split_state.proofs.agreement.agrees.Goals as goal

pub loop-place-preserved : goal.loop-place-preserved
loop-place-preserved c =
    one_less_left c.args.reads.now (map.get c.args.book.now) c.loop-place.place (c.row.result.0.now, c.row.result.1.now) c.row.ensures.entry (c.if-not-is_as_read.ensures.0 refl) c.loop-place.invariant
