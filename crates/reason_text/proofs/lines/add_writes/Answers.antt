use Rattle.reason_text.proofs.SoFar.{appended}
use Rattle.reason_text.specs.Lines.{written_line}
use Rattle.reason_text.proofs.lines.add_writes.Goals as goal

pub loop-index-preserved : goal.loop-index-preserved
loop-index-preserved c = appended written_line c.args.writes.now c.loop-index.index _ c.args.text.now.items _ _ c.row.ensures.entry c.loop-index.invariant c.in_ok-add_written.ensures
