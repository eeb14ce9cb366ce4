use Rattle.std.proofs.Common.{◌≡◌, ◌++◌}
use Rattle.rtrb.specs.Ring.{sent}
use Rattle.link_frames.proofs.waiting.hand_over.Given as goal

-- what is handed over so far, and the rest
abbrev pub invariant-loop : goal.invariant-loop
invariant-loop g l = sent l.outbound ++ l.rest ≡ sent l.fn.outbound ++ l.bytes
