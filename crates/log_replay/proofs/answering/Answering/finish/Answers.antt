use Rattle.std.proofs.Common.{rules, arith, sym, ◌∙◌}
use Rattle.std.proofs.lemmas.List.{nil_from_length}
use Rattle.log_replay.proofs.Taking.{last_answered, none_left, not_zero, on_ok}
use Rattle.log_replay.proofs.answering.Answering.finish.Goals as goal

pub returns-then-is_empty-clause-finishes : goal.returns-then-is_empty-clause-finishes
returns-then-is_empty-clause-finishes g c = none_left _ _ _ (nil_from_length c.args.self.now.block.items (search rules))

pub returns-clause-finishes : goal.returns-clause-finishes
returns-clause-finishes g c =
    let block = c.args.self.now.block in
    let some = not_zero _ (sym c.is_empty.ensures ∙ c.if-is_empty.false) in
    on_ok (last_answered _ _ _ _ _ (omega (arith, some, block.ok.0)) (omega (arith, c.requires.counted.room))) c.answer.result c.answer.ensures.answers
