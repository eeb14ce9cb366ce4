use Rattle.day_totals.proofs.Appended.{appended}
use Rattle.day_totals.specs.Page.{row}
use Rattle.day_totals.proofs.rows.add_rows.Goals as goal

pub loop-total-preserved : goal.loop-total-preserved
loop-total-preserved c = appended row c.args.totals.now c.loop-total.total-index c.total-item.result c.args.html.now.items _ _ c.loop-total-test.true c.total-item.is c.loop-total.invariant c.in_ok-add_row.ensures
