use Rattle.std.proofs.Common.{Option, sym, ap, ◌∙◌, ◌++◌, option_to_list, append-nil}
use Rattle.issuer_rows.specs.declared.reply_body.ReplyBody.{ReplyBody}
use Rattle.stm_core.proofs.Steps.{replies-more}
use Rattle.stm_core.proofs.slots.replies_in.Goals as goal
use Rattle.stm_core.proofs.slots.replies_in.Goals.{in-Some+in_ok-push, in_default}

pub loop-slot-preserved : goal.loop-slot-preserved
loop-slot-preserved c =
    replies-more c.loop-slot.replies.items c.match-reply.replies.items c.args.slots.now c.loop-slot.slot-index c.slot-item.result c.loop-slot-test.true c.slot-item.is c.loop-slot.invariant
    (elim c.match-reply.branch [
      | in-Some+in_ok-push w ↦
          ap (λ v. v.items) w.replies-is ∙ w.in_ok-push.ensures.items
          ∙ ap (λ (o : Option ReplyBody). c.loop-slot.replies.items ++ option_to_list o) (sym (sym c.reply.ensures ∙ w.in-Some.is))
      | in_default w ↦
          ap (λ v. v.items) w.replies-is ∙ sym (append-nil c.loop-slot.replies.items)
          ∙ ap (λ (o : Option ReplyBody). c.loop-slot.replies.items ++ option_to_list o) (sym (sym c.reply.ensures ∙ w.in_default.is))
    ])
