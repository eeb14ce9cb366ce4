use Rattle.std.proofs.Common.{◌≡◌, ◌++◌, drop}
use Rattle.app_messages.specs.Lines.{reply_lines}
use Rattle.app_messages.proofs.listing.lines_of_replies.Given as goal

-- the lines so far, and those of what is left
abbrev pub invariant-loop-index : goal.invariant-loop-index
invariant-loop-index l = l.text.items ++ reply_lines l.form l.block l.index (drop l.index l.replies) ≡ reply_lines l.form l.block 0 l.replies
