use Rattle.std.proofs.Common.{rules, ◌≡◌, ap, sym, ◌∙◌, length}
use Rattle.issuer_fold.proofs.FoldLaws.{length-replies_to}
use Rattle.issuer_rows.specs.Fold.{replies_to}
use Rattle.app_audit.proofs.Counts.{few_replies}
use Rattle.app_audit.proofs.auditing_blocks.decided_block.Goals as goal

pub first_differing_reply-differing-requires-clause-count : goal.first_differing_reply-differing-requires-clause-count
first_differing_reply-differing-requires-clause-count c =
    let right : c.in_ok-prefix.prefix.replies.items ≡ replies_to c.args.book c.args.frames.now = search rules in
    c.requires.count ∙ sym (length-replies_to c.args.book c.args.frames.now) ∙ sym (ap length right) ∙ sym (ap length c.deref.ensures.value)

pub first_differing_reply-differing-requires-clause-few : goal.first_differing_reply-differing-requires-clause-few
first_differing_reply-differing-requires-clause-few c =
    let right : c.in_ok-prefix.prefix.replies.items ≡ replies_to c.args.book c.args.frames.now = search rules in
    few_replies _ c.args.book c.args.frames.now c.requires.few (c.deref.ensures.value ∙ right)
