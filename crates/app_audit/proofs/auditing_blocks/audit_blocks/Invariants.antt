use Rattle.std.proofs.Common.{map}
use Rattle.app_audit.proofs.BlockSteps.{AreRightSoFar}
use Rattle.app_audit.proofs.auditing_blocks.audit_blocks.Given as goal

abbrev pub invariant-loop-block : goal.invariant-loop-block
invariant-loop-block l = AreRightSoFar l.book (map (λ b. b.items) l.blocks) (map (λ b. b.items) l.replies) l.right l.block
