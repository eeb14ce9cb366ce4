use Rattle.reason_text.proofs.SoFar.{appended}
use Rattle.reason_text.specs.Lines.{read_line}
use Rattle.reason_text.proofs.lines.add_reads.Goals as goal

pub loop-index-preserved : goal.loop-index-preserved
loop-index-preserved c = appended read_line c.args.reads.now c.loop-index.index _ c.args.text.now.items _ _ c.row.ensures.entry c.loop-index.invariant c.in_ok-add_read.ensures
