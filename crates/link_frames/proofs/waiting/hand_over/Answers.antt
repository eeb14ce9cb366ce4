use Rattle.std.proofs.Common.{List, ℕ, sym, subst}
use Rattle.rtrb.specs.Ring.{sent}
use Rattle.file_devices.specs.Appending.{Begins}
use Rattle.link_frames.proofs.AheadFronts.{each_allowed}
use Rattle.link_frames.proofs.waiting.hand_over.Goals as goal

pub push_partial_slice-requires : goal.push_partial_slice-requires
push_partial_slice-requires g c =
    each_allowed g.L.Link.is_known g.L.Link.bytes (sent c.loop.outbound) c.loop.rest.now
    (λ known. subst (λ (x : List ℕ). Begins x g.L.Link.bytes) (sym c.loop.invariant) (c.requires known))
