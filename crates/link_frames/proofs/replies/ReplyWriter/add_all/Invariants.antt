use Rattle.std.proofs.Common.{◌≡◌, ◌++◌, take}
use Rattle.link_frames.specs.Replies.{reply_frames}
use Rattle.link_frames.proofs.replies.ReplyWriter.add_all.Given as goal

-- the frames of the replies so far stand behind those that were there
abbrev pub invariant-loop-reply : goal.invariant-loop-reply
invariant-loop-reply l = l.self.out.items ≡ l.fn.self.out.items ++ reply_frames (take l.reply-index l.replies)
