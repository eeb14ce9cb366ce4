use Rattle.app_messages.proofs.TextFaults.{text_fits}
use Rattle.app_messages.proofs.opening.open_text.Goals as goal

pub returns-clause-fit : goal.returns-clause-fit
returns-clause-fit g c =
    let read = rw c.deref.ensures.value at c.in_ok-bodies.ensures.ok in
    text_fits c.in_ok-lines.lines.items c.in_ok-bodies.bodies.items read c.in_ok-bodies.ensures.few

pub returns-clause-bodies : goal.returns-clause-bodies
returns-clause-bodies g c bytes h =
    let read = rw c.deref.ensures.value at c.in_ok-bodies.ensures.ok in
    rw (← c.in_ok-lines.ensures.read bytes h) read
