use Rattle.std.proofs.Common.{◌+◌, drop, ap, sym, ◌∙◌}
use Rattle.std.proofs.lemmas.List.{drop_all}
use Rattle.issuer_fold.proofs.FoldLaws.{left_in_turn}
use Rattle.host_serving.specs.Tally.{counted}
use Rattle.host_serving.specs.declared.tally.Tally.{Tally}
use Rattle.host_serving.proofs.tally.Tally.add.Goals as goal

pub loop-frame-preserved : goal.loop-frame-preserved
loop-frame-preserved c =
    let frames = c.args.frames.now in
    let i = c.loop-frame.frame-index in
    ap (λ (tally : Tally). counted tally (drop (i + 1) frames)) c.add_one.ensures
    ∙ ap (counted c.loop-frame.self) (sym (left_in_turn frames i c.frame-item.result c.loop-frame-test.true c.frame-item.is)) ∙ c.loop-frame.invariant

pub returns : goal.returns
returns c =
    ap (counted c.loop-frame.self) (sym (drop_all c.loop-frame.frame-index c.args.frames.now c.loop-frame-test.false)) ∙ c.loop-frame.invariant
