use Rattle.std.proofs.Common.{List, ℕ, sym, subst, take}
use Rattle.rtrb.specs.Ring.{received}
use Rattle.file_devices.specs.Appending.{Begins}
use Rattle.link_frames.proofs.AheadFronts.{came}
use Rattle.link_frames.proofs.ahead.Ahead.take_those_there.Goals as goal

pub returns-clause-beginning : goal.returns-clause-beginning
returns-clause-beginning g c = λ known is.
    subst (λ (x : List ℕ). Begins x g.L.Link.bytes) (sym c.pop_partial_slice-count.ensures.received.1)
    (came g.L.Link.is_known g.L.Link.bytes (received c.args.self.now.inbound) (take c.pop_partial_slice-count.result c.pop_partial_slice-count.new.slice) c.pop_partial_slice-count.ensures.allowed (λ _. is) known)
