use Rattle.std.proofs.Common.{◌≡◌, ◌≤◌, ◌<◌, ◌+◌, ℕ, List, length, get_or, slice_get, slice_index, replicate, subst, sym, ap, ◌∙◌, arith, rules, length-set}
use Rattle.std.proofs.Math.ListN.{set}
use Rattle.std.proofs.lemmas.Option.{get_or_from_slice_get, slice_get-get_or}
use Rattle.issuer_words.specs.Words.{ReplyBody}
use Rattle.engine_parts.proofs.QueueLaws.{below_at, in_order_all, in_order_first, in_order_next, length_replies, small_next, zeros}
use Rattle.engine_parts.specs.Decided.{AreInOrder, list_at, replies_of, with_next}
use Rattle.engine_parts.proofs.joining.in_order.Goals as goal

pub loop-part-init : goal.loop-part-init
loop-part-init c =
    let parts = c.args.parts.now in
    let lists = replies_of c.args.others.now c.args.last.now in
    let next = c.in_ok-next.next.items in
    let long : length next ≡ length c.args.others.now + 1 = search rules in
    let all_zero : next ≡ replicate (length c.args.others.now + 1) 0 = search rules in
    let zero : (p : ℕ) → slice_index next p ≡ 0 = λ p. ap (λ (xs : List ℕ). slice_index xs p) all_zero ∙ zeros (length c.args.others.now + 1) p in
    record {
      long = long;
      small = λ p. (let z = zero p in omega (arith, z));
      so_far = subst (λ (os : List ReplyBody). AreInOrder parts lists 0 next os) (sym c.in_ok-ordered.ensures.items) (in_order_first parts lists next zero);
    }

pub loop-part-preserved : goal.loop-part-preserved
loop-part-preserved c =
    let so = c.loop-part.invariant in
    let parts = c.args.parts.now in
    let i = c.loop-part.part-index in
    let part = get_or parts i 0 in
    let others = c.args.others.now in
    let last = c.args.last.now in
    let lists = replies_of others last in
    let next = c.loop-part.next.items in
    let ordered = c.loop-part.ordered.items in
    let inside : i < length parts = c.loop-part-test.true in
    let within : part < length others + 1 = below_at parts (length others + 1) i c.requires.below inside in
    let in_next : part < length next = subst (λ (n : ℕ). part < n) (sym so.long) within in
    let read_at = slice_get-get_or next part c.index-place.result.now in_next in
    let place_is : c.index-place.result.now ≡ slice_index next part
    = c.index-place.ensures ∙ sym (get_or_from_slice_get next part (get_or next part c.index-place.result.now) 0 read_at) in
    let pushed : c.push_reply.new.ordered.items ≡ with_next ordered (slice_get (list_at lists part) (slice_index next part))
    = c.in_ok-push_reply.ensures ∙ (λ j. with_next ordered (slice_get (c.of_part.ensures j) (place_is j))) in
    let read = in_order_next parts lists i part next ordered (slice_get-get_or parts i 0 inside) inside
    (subst (λ (n : ℕ). part < n) (sym (length_replies others last)) within) (so.long ∙ sym (length_replies others last)) so.so_far in
    record {
      long = length-set next part (c.index-place.result.now + 1) ∙ so.long;
      small = small_next next part c.index-place.result.now i so.small (subst (λ (n : ℕ). n ≤ i) (sym place_is) (so.small part)) (subst (λ (n : ℕ). part < n) (sym so.long) within);
      so_far = subst (λ (n : ℕ). AreInOrder parts lists (i + 1) (set next part (n + 1)) c.push_reply.new.ordered.items) (sym place_is)
          (subst (λ (os : List ReplyBody). AreInOrder parts lists (i + 1) (set next part (slice_index next part + 1)) os) (sym pushed) read);
    }

pub returns : goal.returns
returns c =
    let parts = c.args.parts.now in
    let lists = replies_of c.args.others.now c.args.last.now in
    let done : c.loop-part.part-index ≡ length parts = omega arith in
    in_order_all parts lists c.loop-part.next.items c.loop-part.ordered.items
    (subst (λ (n : ℕ). AreInOrder parts lists n c.loop-part.next.items c.loop-part.ordered.items) done c.loop-part.invariant.so_far)
