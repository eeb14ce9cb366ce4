use Rattle.std.proofs.Common.{◌≡◌, ◌∷◌, [], length, arith, ap, refl}
use Rattle.std.proofs.lemmas.List.{length-append}
use Rattle.log_replay.proofs.Taking.{fills, on_ok, waits}
use Rattle.log_replay.proofs.answering.Answering.take.Goals as goal

pub returns-then-len-lt-FULL-clause-takes : goal.returns-then-len-lt-FULL-clause-takes
returns-then-len-lt-FULL-clause-takes g c = waits _ _ c.args.frame.now _ _ refl refl c.in_ok-push_copy.ensures

pub returns-clause-takes : goal.returns-clause-takes
returns-clause-takes g c =
    let block = c.push_copy.new.items in
    let full : length block.items ≡ 65536 = omega (
      arith,
      c.if-len-lt-FULL.false,
      c.len.ensures,
      block.ok.0,
      ap length c.in_ok-push_copy.ensures,
      length-append c.args.self.now.block.items (c.args.frame.now ∷ []),
      c.requires.counted.room,
    ) in
    on_ok (fills _ _ _ c.args.frame.now _ _ _ refl refl c.in_ok-push_copy.ensures full) c.answer.result c.answer.ensures.answers
