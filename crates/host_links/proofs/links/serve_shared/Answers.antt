use Rattle.std.proofs.Common.{arith}
use Rattle.std.proofs.Math.Logic.{∥∥₁_elim}
use Rattle.std.proofs.Math.Nat.{ℕ_set}
use Rattle.host_links.proofs.Merging.{merged_link}
use Rattle.host_links.proofs.links.serve_shared.Goals as goal

pub returns : goal.returns
returns g c met link other less =
    let behind = c.into_inner-behind.result in
    merged_link _ _ _ _ g.J.Naming.book link g.J.Before.opening behind.front behind.counts.items _ _ (c.serve_seats.ensures link other less)
    (c.has_all-has_all.ensures met link other (omega (arith, less, c.serve_seats.auto.seats)))
    (λ link count has. ∥∥₁_elim behind.kept (ℕ_set _ _) (λ kept. kept.counts link count has))
