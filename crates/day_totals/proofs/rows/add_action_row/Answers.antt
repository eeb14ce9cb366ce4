use Rattle.day_totals.proofs.Appended.{six}
use Rattle.day_totals.proofs.rows.add_action_row.Goals as goal

pub returns : goal.returns
returns c = six c.args.html.now.items _ _ _ _ _ _ _ _ _ _ _ _ c.in_ok-extend_from_slice.ensures.items c.in_ok-add_name_cell.ensures c.in_ok-add_number_cell.ensures c.in_ok-add_share_cell.ensures c.in_ok-add_meaning_cell.ensures c.in_ok-extend_from_slice-2.ensures.items
