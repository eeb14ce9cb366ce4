use Rattle.std.proofs.Common.{◌≡◌, length, Some, drop, slice_index, sym, ap, ◌∙◌, arith, rules, List}
use Rattle.std.proofs.lemmas.Option.{slice_get-get_or}
use Rattle.issuer_rows.specs.declared.reply_body.ReplyBody.{ReplyBody}
use Rattle.parts_books.proofs.Arrival.{list_there, unread}
use Rattle.parts_books.proofs.joining_replies.are_read.Goals as goal

pub returns-then-next-part-clause-no : goal.returns-then-next-part-clause-no
returns-then-next-part-clause-no c =
    let p = c.loop-part.part in
    let list = c.index-replies-part.result in
    let next = c.args.next.now in
    let there = list_there c.args.replies.now p list (slice_get-get_or c.args.replies.now p list c.loop-part-test.true ∙ ap Some (sym c.index-replies-part.is)) in
    let long : c.len.result ≡ length list.items = search rules in
    λ _. (p, λ none. unread list.items (slice_index next p) (omega (arith, c.if-next-part.true, long)) (ap (λ (xs : List ReplyBody). drop (slice_index next p) xs) (sym there) ∙ none))
