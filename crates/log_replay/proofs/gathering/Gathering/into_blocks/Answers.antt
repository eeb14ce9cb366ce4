use Rattle.std.proofs.Common.{rules, sym, ◌∙◌, arith}
use Rattle.std.proofs.lemmas.List.{nil_from_length}
use Rattle.log_replay.proofs.Gathers.{none_left, some_left}
use Rattle.log_replay.proofs.Taking.{not_zero}
use Rattle.log_replay.proofs.gathering.Gathering.into_blocks.Goals as goal

pub returns-then-is_empty : goal.returns-then-is_empty
returns-then-is_empty c messages has = none_left c.args.self messages (nil_from_length c.args.self.block.items (search rules)) has

pub returns : goal.returns
returns c messages has =
    let block = c.args.self.block in
    let some = not_zero _ (sym c.is_empty.ensures ∙ c.if-is_empty.false) in
    some_left c.args.self messages _ (omega (arith, some, block.ok.0)) c.in_ok-close.ensures.blocks has
