use Rattle.std.proofs.Common.{ℕ, ◌<◌, slice_index_or}
use Rattle.host_links.specs.Merged.{HasSeenAll}
use Rattle.host_links.proofs.shared_host.SharedHost.has_all.Given as goal

-- the links so far have
abbrev pub invariant-loop-link : goal.invariant-loop-link
invariant-loop-link g l = (link : ℕ) (other : _) → link < l.link → HasSeenAll link l.self.front l.self.counts.items (slice_index_or l.seats link other)
