use Rattle.std.proofs.Common.{rules, ◌≡◌, length}
use Rattle.std.proofs.lemmas.List.{nil_from_length}
use Rattle.rtrb.specs.Ring.{received}
use Rattle.file_batch.proofs.Handed.{told_none, told_one_more, consumer_on}
use Rattle.file_batch.proofs.reader.Reader.take_rest.Goals as goal

pub returns-then-is_empty-clause-ends : goal.returns-then-is_empty-clause-ends
returns-then-is_empty-clause-ends g c =
    let ends = c.loop.invariant.ends in
    (ends.0, consumer_on c.args.self.now.inbound c.loop.self.inbound c.wait_for-piece.new.inbound ends.1 c.wait_for-piece.ensures.ring)

pub returns-then-is_empty-clause-told : goal.returns-then-is_empty-clause-told
returns-then-is_empty-clause-told g c =
    let piece = c.wait_for-piece.result in
    let empty : length piece.replies.items ≡ 0 = search rules in
    λ head told. rw c.wait_for-piece.ensures.received (told_none head c.loop.self.out.items (received c.loop.self.inbound) piece (nil_from_length piece.replies.items empty) (c.loop.invariant.told head told))

pub returns-in_err-add_replies-clause-ends : goal.returns-in_err-add_replies-clause-ends
returns-in_err-add_replies-clause-ends g c =
    let ends = c.loop.invariant.ends in
    (ends.0, consumer_on c.args.self.now.inbound c.loop.self.inbound c.wait_for-piece.new.inbound ends.1 c.wait_for-piece.ensures.ring)

pub loop-preserved : goal.loop-preserved
loop-preserved g c =
    let ends = c.loop.invariant.ends in
    record {
      ends = (ends.0, consumer_on c.args.self.now.inbound c.loop.self.inbound c.wait_for-piece.new.inbound ends.1 c.wait_for-piece.ensures.ring);
      told = λ head told. rw (c.in_ok-add_replies.ensures.text, c.deref.ensures.value, c.wait_for-piece.ensures.received)
          (told_one_more head c.loop.self.out.items (received c.loop.self.inbound) c.wait_for-piece.result (c.loop.invariant.told head told) (rw c.deref.ensures.value at c.in_ok-add_replies.ensures.bodies));
    }
