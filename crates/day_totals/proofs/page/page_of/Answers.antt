use Rattle.std.proofs.Common.{[]}
use Rattle.day_totals.proofs.Appended.{five}
use Rattle.day_totals.proofs.page.page_of.Goals as goal

pub returns : goal.returns
returns c =
    let first = rw c.new-html.ensures.items at c.in_ok-add_head.ensures in
    five [] _ _ _ _ _ _ _ _ _ _ first c.in_ok-add_messages.ensures c.in_ok-add_money.ensures c.in_ok-add_requests.ensures c.in_ok-add_foot.ensures
