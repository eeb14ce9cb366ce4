use Rattle.std.proofs.Common.{◌≡◌, ◌++◌, drop}
use Rattle.link_frames.specs.Incoming.{merged}
use Rattle.link_frames.proofs.replies.ReplyWriter.make.Given as goal

-- what was made so far, and what is to be made of the rest
abbrev pub invariant-loop-request : goal.invariant-loop-request
invariant-loop-request l = l.self.out.items ++ merged (drop l.request-index l.requests) l.rest ≡ merged l.requests l.replies
