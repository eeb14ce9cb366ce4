use Rattle.std.proofs.Common.{rules}
use Rattle.app_audit.proofs.Counts.{few_replies}
use Rattle.app_audit.proofs.auditing.audit.Goals as goal

pub compared-requires : goal.compared-requires
compared-requires c = few_replies c.in_ok-right.right.replies.items c.args.book.now c.args.frames.now c.requires (search rules)
