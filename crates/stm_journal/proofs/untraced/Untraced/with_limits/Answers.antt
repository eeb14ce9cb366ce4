use Rattle.std.proofs.Common.{[]}
use Rattle.stm_journal_text.proofs.Playing.{IsPlayed-start}
use Rattle.stm_journal.proofs.untraced.Untraced.with_limits.Goals as goal

pub invariant_of-result : goal.invariant_of-result
invariant_of-result c =
    record { entries = []; played = IsPlayed-start c.args.book.now c.args.frames.now c.args.limits c.in_ok-with_limits.field-0 c.in_ok-with_limits.ensures }
