use Rattle.std.proofs.Common.{◌≡◌, take}
use Rattle.std.specs.List.{AllByRecursion}
use Rattle.file_laws.specs.Files.{reply_text}
use Rattle.file_laws.specs.Replies.{IsReplyBody}
use Rattle.file_batch.proofs.Pieces.{behind_length, so_many}
use Rattle.file_batch.proofs.replies.add_replies.Given as goal

-- the replies so far, behind what stood there
abbrev pub invariant-loop-reply : goal.invariant-loop-reply
invariant-loop-reply l = record {
  text : l.out.items ≡ so_many (behind_length reply_text) l.fn.out.items l.replies l.reply-index;
  bodies : AllByRecursion IsReplyBody (take l.reply-index l.replies);
}
