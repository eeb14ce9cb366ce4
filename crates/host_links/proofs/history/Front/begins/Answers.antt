use Rattle.std.proofs.Common.{◌≤◌, ap, subst, arith, length, List}
use mathlib.Core.List.{IsPrefix}
use Rattle.host_links.specs.declared.link_turn.LinkTurn.{LinkTurn}
use Rattle.host_links.proofs.Fronts.{prefix_shorter}
use Rattle.host_links.proofs.history.Front.begins.Goals as goal

pub returns : goal.returns
returns g c is =
    let both = c.learn.new.self.log in
    let this : IsPrefix c.self.inside.seen.log both = subst (λ (l : List LinkTurn). IsPrefix l both) (ap (λ s. s.log) c.again-both.ensures) c.learn.ensures.2 in
    let less : length c.self.inside.seen.log ≤ length c.whole.inside.seen.log = omega (arith, c.self.invariant.0, c.whole.invariant.0, c.if-self-whole.false) in
    rw (← c.self.view_is, ← c.whole.view_is) (prefix_shorter c.self.inside.seen.log c.whole.inside.seen.log both this c.learn.ensures.3 less)
