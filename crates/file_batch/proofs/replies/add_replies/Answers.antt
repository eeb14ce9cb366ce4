use Rattle.std.proofs.Common.{◌++◌, ℕ, List, sym, ap, ◌∙◌}
use Rattle.std.proofs.lemmas.List.{append-nil}
use Rattle.file_laws.specs.Files.{reply_text}
use Rattle.file_laws.specs.Replies.{IsReplyBody}
use Rattle.file_batch.proofs.Pieces.{behind_length, one_more_at, all_of_them, one_more_holds, all_hold}
use Rattle.file_batch.proofs.replies.add_replies.Goals as goal

pub loop-reply-init : goal.loop-reply-init
loop-reply-init c = record { text = sym (append-nil c.args.out.now.items); bodies = tt }

pub loop-reply-preserved : goal.loop-reply-preserved
loop-reply-preserved c =
    let replies = c.args.replies.now in
    let text = behind_length reply_text in
    let head = c.args.out.now.items in
    let i = c.loop-reply.reply-index in
    record {
      text = c.in_ok-add.ensures.text ∙ ap (λ (out : List ℕ). out ++ text c.reply-item.result) c.loop-reply.invariant.text
          ∙ sym (one_more_at text head replies i c.reply-item.result c.loop-reply-test.true c.reply-item.is);
      bodies = one_more_holds IsReplyBody replies i c.reply-item.result c.loop-reply-test.true c.reply-item.is c.in_ok-add.ensures.holds c.loop-reply.invariant.bodies;
    }

pub returns : goal.returns
returns c = record {
  text = c.loop-reply.invariant.text ∙ all_of_them (behind_length reply_text) c.args.out.now.items c.args.replies.now c.loop-reply.reply-index c.loop-reply-test.false;
  bodies = all_hold IsReplyBody c.args.replies.now c.loop-reply.reply-index c.loop-reply-test.false c.loop-reply.invariant.bodies;
}
