use Rattle.std.proofs.Common.{refl}
use Rattle.stm_journal.proofs.Replayed.{at_frame}
use Rattle.issuer_rows.specs.Agreement.{keys_read}
use Rattle.stm_journal.proofs.Turning.{makes_read}
use Rattle.stm_journal.proofs.turns.execute.Goals as goal

pub ask-requires-clause-makes : goal.ask-requires-clause-makes
ask-requires-clause-makes c =
    let s = c.args.traced.now.core.state in
    let frame = c.index-frames-version.result in
    let keys = rw (c.core-2.ensures.core, c.present_version-present.ensures) at c.in_ok-execution.ensures.keys in
    let first = rw (c.core-3.ensures.core, c.reads.ensures) at c.in-Some.ensures.first in
    makes_read s c.args.version frame (keys_read c.in_ok-execution.execution.reads) c.in-Some.row
    (at_frame c.args.frames.now s.frames c.args.version.index frame frame c.requires.frames c.requires.message c.index-frames-version.is refl) keys first
