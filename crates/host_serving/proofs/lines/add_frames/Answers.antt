use Rattle.std.proofs.Common.{◌≡◌, ◌+◌, ◌++◌, ◌∷◌, [], ℕ, List, drop, sym, ap, ◌∙◌, append_assoc}
use Rattle.std.proofs.lemmas.List.{append-nil, drop_all}
use Rattle.issuer_rows.specs.declared.frame.Frame.{Frame}
use Rattle.issuer_fold.proofs.FoldLaws.{left_in_turn}
use Rattle.host_serving.specs.Tally.{counted}
use Rattle.host_serving.specs.Lines.{unreadable_line_of, unreadable_lines}
use Rattle.host_serving.proofs.lines.add_frames.Goals as goal

pub loop-frame-preserved : goal.loop-frame-preserved
loop-frame-preserved c =
    let frames = c.args.frames.now in
    let i = c.loop-frame.frame-index in
    let so_far = c.loop-frame.invariant in
    let tally = c.loop-frame.tally in
    let left : drop i frames ≡ c.frame-item.result ∷ drop (i + 1) frames = left_in_turn frames i c.frame-item.result c.loop-frame-test.true c.frame-item.is in
    let line = unreadable_line_of tally.bodies c.frame-item.result in
    let behind = unreadable_lines c.add_one.new.self (drop (i + 1) frames) in
    record {
      lines = ap (λ (x : List ℕ). x ++ behind) c.in_ok-add_frame.ensures ∙ append_assoc c.loop-frame.text.items line behind
          ∙ ap (λ (t : _). c.loop-frame.text.items ++ (line ++ unreadable_lines t (drop (i + 1) frames))) c.add_one.ensures
          ∙ ap (λ (x : List Frame). c.loop-frame.text.items ++ unreadable_lines tally x) (sym left) ∙ so_far.lines;
      tally = ap (λ (t : _). counted t (drop (i + 1) frames)) c.add_one.ensures ∙ ap (counted tally) (sym left) ∙ so_far.tally;
    }

pub returns-clause-lines : goal.returns-clause-lines
returns-clause-lines c =
    let none = drop_all c.loop-frame.frame-index c.args.frames.now c.loop-frame-test.false in
    sym (append-nil c.loop-frame.text.items) ∙ ap (λ (x : List Frame). c.loop-frame.text.items ++ unreadable_lines c.loop-frame.tally x) (sym none) ∙ c.loop-frame.invariant.lines

pub returns-clause-tally : goal.returns-clause-tally
returns-clause-tally c =
    ap (counted c.loop-frame.tally) (sym (drop_all c.loop-frame.frame-index c.args.frames.now c.loop-frame-test.false)) ∙ c.loop-frame.invariant.tally
