use Rattle.std.proofs.Common.{◌≡◌, ◌∷◌, ◌++◌, ◌≤◌, List, [], length, refl, ap, subst, ◌∙◌, arith}
use Rattle.issuer_words.specs.Words.{ReplyBody, replies_to, rows_after}
use Rattle.rtrb.specs.Ring.{sent, received, known_items}
use Rattle.std.specs.Prelude.{count_by}
use Rattle.file_batch.specs.Counting.{is_unreadable}
use Rattle.file_batch.specs.InOrder.{HasReplies}
use Rattle.file_batch.specs.Pieces.{frames_in, replies_in}
use Rattle.file_batch.specs.declared.piece.Piece.{Piece}
use Rattle.file_batch.proofs.Handed.{one_moved, all_moved, count_of_one_more, unreadable_of_one_more, within_count, book_of_one_more, told_and_decided}
use Rattle.file_batch.proofs.in_order.decide_rest.Goals as goal

pub loop-init : goal.loop-init
loop-init g c =
    let looked = c.slots_beside-left-2.ensures.looked.1 in
    let outbound : sent c.take_left.new.self.outbound ≡ sent c.args.reader.now.outbound = rw c.in_ok-take_left.ensures.outbound refl in
    record {
      fifo = c.slots_beside-left-2.ensures.fifo ∙ (c.slots_beside-left-2.ensures.producer.1 ∙ outbound);
      left = omega (arith, c.slots_beside-left-2.ensures.value);
      counted = rw looked c.requires.counted;
      book = λ book had. rw looked had.0;
      told = λ book head had told.
          let back : received c.take_left.new.self.inbound ≡ sent c.args.decider.now.outbound =
          c.in_ok-take_left.ensures.received ∙ (c.slots_beside-left.ensures.fifo ∙ c.slots_beside-left.ensures.producer.1) in
          let before = c.in_ok-take_left.ensures.told head (rw c.slots_beside-left.ensures.looked.1 told) in
          let same : replies_in (received c.take_left.new.self.inbound) ≡ replies_to book (frames_in (received c.args.decider.now.inbound)) = ap replies_in back ∙ had.2 in
          rw looked (subst (λ (x : List ReplyBody). HasReplies head x c.take_left.new.self.out.items) same before);
    }

pub pop_known-piece-requires : goal.pop_known-piece-requires
pop_known-piece-requires g c = omega (arith, c.loop.invariant.left, c.loop-test.true)

pub decide-requires : goal.decide-requires
decide-requires g c =
    let came = received c.loop.decider.inbound in
    let piece = c.pop_known-piece.result in
    let allowed : length (frames_in (came ++ piece ∷ [])) ≤ 65536 = c.pop_known-piece.ensures.allowed in
    record {
      few = omega (arith, count_of_one_more came piece c.loop.decider.prefix.count c.loop.invariant.counted.0, allowed);
      within = within_count c.loop.decider c.loop.invariant.counted;
    }

pub loop-preserved : goal.loop-preserved
loop-preserved g c =
    let popped = c.pop_known-piece.ensures.received in
    let done = c.in_ok-decide.ensures in
    let came = received c.loop.decider.inbound in
    let piece = c.pop_known-piece.result in
    let now = c.loop.decider.prefix.book in
    let arrived : received c.decide.new.self.inbound ≡ came ++ piece ∷ [] = rw done.ends.0 popped.0 in
    record {
      fifo = rw done.ends.0 (one_moved came (received c.pop_known-piece.new.self) (known_items c.loop.decider.inbound) (known_items c.pop_known-piece.new.self)
          piece (sent c.args.reader.now.outbound) popped.0 popped.1 c.loop.invariant.fifo);
      left = rw done.ends.0 (omega (arith, c.loop.invariant.left, ap (λ (x : List Piece). length x) popped.1));
      counted = (
        rw (arrived, done.count) (count_of_one_more came piece c.loop.decider.prefix.count c.loop.invariant.counted.0),
        rw (arrived, done.unreadable) (unreadable_of_one_more came piece c.loop.decider.unreadable c.loop.invariant.counted.1),
      );
      book = λ book had. rw (arrived, done.book) (book_of_one_more book now came piece (c.loop.invariant.book book had));
      told = λ book head had told. rw (arrived, c.in_ok-tell.ensures.out, done.replies)
          (told_and_decided book now head c.loop.reader.out.items came piece (c.loop.invariant.book book had) (c.loop.invariant.told book head had told) (rw done.replies at c.in_ok-tell.ensures.bodies));
    }

pub returns-clause-book : goal.returns-clause-book
returns-clause-book g c =
    let all = all_moved (received c.loop.decider.inbound) (known_items c.loop.decider.inbound) (sent c.args.reader.now.outbound) (omega (arith, c.loop.invariant.left, c.loop-test.false)) c.loop.invariant.fifo in
    λ book had. c.loop.invariant.book book had ∙ ap (λ (x : List Piece). rows_after book (frames_in x)) all

pub returns-clause-unreadable : goal.returns-clause-unreadable
returns-clause-unreadable g c =
    let all = all_moved (received c.loop.decider.inbound) (known_items c.loop.decider.inbound) (sent c.args.reader.now.outbound) (omega (arith, c.loop.invariant.left, c.loop-test.false)) c.loop.invariant.fifo in
    c.loop.invariant.counted.1 ∙ ap (λ (x : List Piece). count_by is_unreadable (frames_in x)) all

pub returns-clause-told : goal.returns-clause-told
returns-clause-told g c =
    let all = all_moved (received c.loop.decider.inbound) (known_items c.loop.decider.inbound) (sent c.args.reader.now.outbound) (omega (arith, c.loop.invariant.left, c.loop-test.false)) c.loop.invariant.fifo in
    λ book head had told. subst (λ (x : List Piece). HasReplies head (replies_to book (frames_in x)) c.loop.reader.out.items) all (c.loop.invariant.told book head had told)
