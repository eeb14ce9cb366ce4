use Rattle.day_totals.proofs.Appended.{three}
use Rattle.day_totals.proofs.page.add_bar_section.Goals as goal

pub returns : goal.returns
returns c = three c.args.html.now.items _ _ _ _ _ _ c.in_ok-open_section.ensures c.in_ok-add_bar_rows.ensures c.in_ok-extend_from_slice.ensures.items
