use Rattle.std.proofs.Common.{◌≡◌}
use Rattle.rtrb.specs.Ring.{received, SameConsumer}
use Rattle.file_batch.proofs.handing.wait_for.Given as goal

-- nothing came yet
abbrev pub invariant-loop : goal.invariant-loop
invariant-loop g l = SameConsumer l.fn.inbound l.inbound × (received l.inbound ≡ received l.fn.inbound)
