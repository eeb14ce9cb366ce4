use Rattle.std.proofs.Common.{◌≡◌, ◌≤◌, ◌∷◌, ◌++◌, [], length, arith}
use Rattle.rtrb.specs.Ring.{sent, received}
use Rattle.file_batch.specs.Pieces.{HasCounted, frames_in}
use Rattle.file_batch.proofs.Handed.{count_of_one_more, decided_one_more, unreadable_of_one_more, within_count, consumer_on, producer_on}
use Rattle.file_batch.proofs.decider.Decider.work.Goals as goal

pub decide-decided-requires : goal.decide-decided-requires
decide-decided-requires g c =
    let came = received c.loop.self.inbound in
    let piece = c.wait_for-piece.result in
    let allowed : length (frames_in (came ++ piece ∷ [])) ≤ 65536 = c.wait_for-piece.ensures.allowed in
    record {
      few = omega (arith, count_of_one_more came piece c.loop.self.prefix.count c.loop.invariant.counted.0, allowed);
      within = within_count c.loop.self c.loop.invariant.counted;
    }

pub returns-in_err-decided-clause-ends : goal.returns-in_err-decided-clause-ends
returns-in_err-decided-clause-ends g c =
    let ends = c.loop.invariant.ends in
    let done = c.in_err-decided.ensures.ends in (
      rw done.0 (consumer_on c.args.self.now.inbound c.loop.self.inbound c.wait_for-piece.new.inbound ends.0 c.wait_for-piece.ensures.ring),
      producer_on c.args.self.now.outbound c.loop.self.outbound c.hand_over.new.outbound ends.1 (rw done.1 at c.hand_over.ensures.ring),
    )

pub returns-then-is_last-clause-ends : goal.returns-then-is_last-clause-ends
returns-then-is_last-clause-ends g c =
    let ends = c.loop.invariant.ends in
    let done = c.in_ok-decided.ensures.ends in (
      rw done.0 (consumer_on c.args.self.now.inbound c.loop.self.inbound c.wait_for-piece.new.inbound ends.0 c.wait_for-piece.ensures.ring),
      producer_on c.args.self.now.outbound c.loop.self.outbound c.hand_over.new.outbound ends.1 (rw done.1 at c.hand_over.ensures.ring),
    )

pub returns-then-is_last-clause-decided : goal.returns-then-is_last-clause-decided
returns-then-is_last-clause-decided g c = λ book had.
    let before = c.loop.invariant.decided book had in
    let done = c.in_ok-decided.ensures in
    let came = received c.loop.self.inbound in
    let piece = c.wait_for-piece.result in
    let arrived : received c.decide-decided.new.self.inbound ≡ came ++ piece ∷ [] = rw done.ends.0 c.wait_for-piece.ensures.received in
    let decided = decided_one_more book c.loop.self.prefix.book c.decide-decided.new.self.prefix.book
    came (received c.decide-decided.new.self.inbound) (sent c.loop.self.outbound) (sent c.hand_over.new.outbound) piece c.decide-decided.new.piece
    arrived (rw done.ends.1 at c.hand_over.ensures.sent) done.book done.replies before.0 before.2 in (
      decided.0,
      (
        rw (arrived, done.count) (count_of_one_more came piece c.loop.self.prefix.count c.loop.invariant.counted.0),
        rw (arrived, done.unreadable) (unreadable_of_one_more came piece c.loop.self.unreadable c.loop.invariant.counted.1),
      ),
      decided.1,
    )

pub loop-preserved : goal.loop-preserved
loop-preserved g c =
    let ends = c.loop.invariant.ends in
    let done = c.in_ok-decided.ensures in
    let came = received c.loop.self.inbound in
    let piece = c.wait_for-piece.result in
    let arrived : received c.decide-decided.new.self.inbound ≡ came ++ piece ∷ [] = rw done.ends.0 c.wait_for-piece.ensures.received in
    let counted : HasCounted c.decide-decided.new.self = (
      rw (arrived, done.count) (count_of_one_more came piece c.loop.self.prefix.count c.loop.invariant.counted.0),
      rw (arrived, done.unreadable) (unreadable_of_one_more came piece c.loop.self.unreadable c.loop.invariant.counted.1),
    ) in
    record {
      ends = (
        rw done.ends.0 (consumer_on c.args.self.now.inbound c.loop.self.inbound c.wait_for-piece.new.inbound ends.0 c.wait_for-piece.ensures.ring),
        producer_on c.args.self.now.outbound c.loop.self.outbound c.hand_over.new.outbound ends.1 (rw done.ends.1 at c.hand_over.ensures.ring),
      );
      counted = counted;
      decided = λ book had.
          let before = c.loop.invariant.decided book had in
          let decided = decided_one_more book c.loop.self.prefix.book c.decide-decided.new.self.prefix.book
          came (received c.decide-decided.new.self.inbound) (sent c.loop.self.outbound) (sent c.hand_over.new.outbound) piece c.decide-decided.new.piece
          arrived (rw done.ends.1 at c.hand_over.ensures.sent) done.book done.replies before.0 before.2 in
          (decided.0, counted, decided.1);
    }
