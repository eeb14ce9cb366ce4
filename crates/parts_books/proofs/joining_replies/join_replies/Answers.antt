use Rattle.std.proofs.Common.{◌≡◌, ◌+◌, ℕ, Vec, Global, List, drop, map, length, get_or, slice_index, refl, sym, ap, ◌∙◌, subst, arith}
use Rattle.std.proofs.Math.ListN.{set}
use Rattle.std.proofs.lemmas.Option.{slice_get-get_or}
use Rattle.engine_parts.specs.Decided.{list_at}
use Rattle.issuer_rows.specs.declared.reply_body.ReplyBody.{ReplyBody}
use Rattle.parts_books.proofs.Arrival.{IsReadTo, read_next, too_few, too_many}
use Rattle.parts_books.proofs.joining_replies.join_replies.Goals as goal

pub returns-in_default-clause-none : goal.returns-in_default-clause-none
returns-in_default-clause-none c =
    let parts = c.args.parts.now in
    let lists = map (λ (list : Vec ReplyBody Global). list.items) c.args.replies.now in
    let i = c.loop-part.part-index in
    λ _ all h. too_few parts lists i (get_or parts i 0) c.loop-part.next.items c.loop-part.ordered.items (slice_get-get_or parts i 0 c.loop-part-test.true) c.loop-part.invariant (c.in_default.ensures.none refl) all h

pub loop-part-preserved : goal.loop-part-preserved
loop-part-preserved c =
    let parts = c.args.parts.now in
    let lists = map (λ (list : Vec ReplyBody Global). list.items) c.args.replies.now in
    let i = c.loop-part.part-index in
    let q = get_or parts i 0 in
    let next = c.loop-part.next.items in
    let ordered = c.loop-part.ordered.items in
    let x = c.in-Some.reply.now in
    let read = read_next parts lists i q next ordered x (slice_get-get_or parts i 0 c.loop-part-test.true) c.in-Some.ensures.within c.loop-part.invariant c.in-Some.ensures.next in
    subst (λ (ns : List ℕ). IsReadTo parts lists (i + 1) ns c.push.new.self.items) (sym c.in-Some.ensures.behind)
    (subst (λ (xs : List ReplyBody). IsReadTo parts lists (i + 1) (set next q (slice_index next q + 1)) xs) (sym c.in_ok-push.ensures.items) read)

pub returns-then-not-are_read-clause-none : goal.returns-then-not-are_read-clause-none
returns-then-not-are_read-clause-none c =
    let parts = c.args.parts.now in
    let lists = map (λ (list : Vec ReplyBody Global). list.items) c.args.replies.now in
    let i = c.loop-part.part-index in
    let done : i ≡ length parts = omega (arith, c.loop-part-test.false) in
    let some = c.if-not-are_read.ensures.no refl in
    λ _ all h. too_many parts lists i c.loop-part.next.items c.loop-part.ordered.items done c.loop-part.invariant some.0
    (λ none. some.1 (ap (λ (ns : List ℕ). drop (slice_index ns some.0) (list_at lists some.0)) c.deref.ensures.value ∙ none)) all h
