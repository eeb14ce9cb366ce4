use Rattle.std.proofs.Common.{◌≤◌, ◌∙◌, count_by, length, sym, ap, take, arith}
use Rattle.std.proofs.lemmas.List.{length-take-le}
use Rattle.std.proofs.lemmas.List.Sums.{count_by-le-length, count_by_more_no, count_by_more_yes}
use Rattle.file_batch.specs.Counting.{is_unreadable}
use Rattle.file_batch.proofs.body_count.unreadable_in.Goals as goal
use Rattle.file_batch.proofs.body_count.unreadable_in.Goals.{then-is_unreadable, else-is_unreadable}

pub overflow_add-unreadable : goal.overflow_add-unreadable
overflow_add-unreadable c =
    let frames = c.args.frames.now in
    let at = c.loop-frame.frame-index in
    let few : count_by is_unreadable (take at frames) ≤ length (take at frames) = count_by-le-length is_unreadable (take at frames) in
    omega (arith, few, length-take-le at frames c.loop-frame.auto.frame-index-end, c.loop-frame.invariant, c.loop-frame-test.true, c.requires)

pub loop-frame-preserved : goal.loop-frame-preserved
loop-frame-preserved c =
    let frames = c.args.frames.now in
    let at = c.loop-frame.frame-index in
    let this = c.frame-item.result in
    elim c.if-is_unreadable.branch [
      | then-is_unreadable w ↦
          let more = count_by_more_yes is_unreadable frames at this c.loop-frame-test.true (ap is_unreadable (sym c.frame-item.is) ∙ (sym c.is_unreadable.ensures ∙ w.if-is_unreadable.true)) in
          omega (arith, w.unreadable-is, c.loop-frame.invariant, more)
      | else-is_unreadable w ↦
          let more = count_by_more_no is_unreadable frames at this c.loop-frame-test.true (ap is_unreadable (sym c.frame-item.is) ∙ (sym c.is_unreadable.ensures ∙ w.if-is_unreadable.false)) in
          w.unreadable-is ∙ c.loop-frame.invariant ∙ sym more
    ]
