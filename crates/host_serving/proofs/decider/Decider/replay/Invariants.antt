use Rattle.std.proofs.Common.{List, take}
use Rattle.issuer_rows.specs.declared.frame.Frame.{Frame}
use Rattle.host_serving.specs.Deciding.{Follows}
use Rattle.host_serving.specs.Entries.{AreMessagesOf}
use Rattle.host_serving.proofs.decider.Decider.replay.Given as goal

-- the entries so far are decided
abbrev pub invariant-loop-bodies : goal.invariant-loop-bodies
invariant-loop-bodies g l = (messages : List Frame) × AreMessagesOf (take l.bodies-index l.entries) messages × Follows l.fn.self l.self messages
