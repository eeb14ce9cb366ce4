use Rattle.std.proofs.Common.{ℕ, ◌++◌, ap, ◌∙◌, append_assoc, arith}
use Rattle.issuer_words.specs.Words.{Rows, rows_after_one}
use Rattle.issuer_view.proofs.ListLaws.{on_err}
use Rattle.issuer_fold.specs.Begun.{AreDecided}
use Rattle.issuer_fold.proofs.FoldLaws.{rows_of_one_more, replies_of_one_more}
use Rattle.issuer_fold.proofs.prefix.Prefix.decide_each.Goals as goal

pub loop-frame-preserved : goal.loop-frame-preserved
loop-frame-preserved g c =
    let frames = c.args.frames.now in
    let i = c.loop-frame.frame-index in
    let frame = c.frame-item.result in
    let opening = c.args.self.now.book in
    let so_far = c.loop-frame.invariant in
    let decided = c.in_ok-decide_one.ensures in
    record {
      count = omega (arith, decided.count, so_far.count);
      book = decided.book ∙ ap (λ (rows : Rows). rows_after_one rows frame) so_far.book
          ∙ rows_of_one_more opening frames i frame c.loop-frame-test.true c.frame-item.is;
      replies = rw (decided.replies, so_far.replies, so_far.book, append_assoc)
          (ap (λ replies. c.args.self.now.replies.items ++ replies) (replies_of_one_more opening frames i frame c.loop-frame-test.true c.frame-item.is));
    }

pub returns-in_err-decide_one-clause-kept : goal.returns-in_err-decide_one-clause-kept
returns-in_err-decide_one-clause-kept g c =
    let so_far = c.loop-frame.invariant in
    let kept = c.in_err-decide_one.ensures.kept in
    let begun : AreDecided c.args.self.now c.decide_one.new.self c.args.frames.now c.loop-frame.frame-index = record {
      within = omega (arith, c.loop-frame-test.true);
      count = kept.0 ∙ so_far.count;
      book = kept.1 ∙ so_far.book;
      replies = kept.2 ∙ so_far.replies;
    } in
    on_err {P = (decided : ℕ) × AreDecided c.args.self.now c.decide_one.new.self c.args.frames.now decided} _ (c.loop-frame.frame-index, begun)
