use Rattle.std.proofs.Common.{drop, zip}
use Rattle.issuer_laws.specs.Parts.{of_part}
use Rattle.engine_parts.specs.Decided.{AreDecidedTo, bodies_of}
use Rattle.engine_parts.proofs.decided_part.DecidedPart.decide_own.Given as goal

-- the messages of the part before this one are decided
abbrev pub invariant-loop-index : goal.invariant-loop-index
invariant-loop-index g l =
    AreDecidedTo l.opening (bodies_of l.part l.parts l.frames) l.self.replies.items l.self.rows (of_part l.part (drop l.index (zip l.parts l.frames)))
