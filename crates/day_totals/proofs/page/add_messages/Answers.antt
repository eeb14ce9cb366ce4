use Rattle.day_totals.proofs.Appended.{three}
use Rattle.day_totals.proofs.page.add_messages.Goals as goal

pub returns : goal.returns
returns c =
    let first = rw c.deref.ensures.value at c.in_ok-add_bar_section.ensures in
    let second = rw c.deref-2.ensures.value at c.in_ok-add_bar_section-2.ensures in
    let third = rw c.deref-3.ensures.value at c.in_ok-add_action_section.ensures in
    three c.args.html.now.items _ _ _ _ _ _ first second third
