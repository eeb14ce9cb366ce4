use Rattle.std.proofs.Common.{rules, ap, ◌∙◌}
use Rattle.issuer_words.specs.Words.{Rows, rows_after_one}
use Rattle.issuer_fold.proofs.FoldLaws.{rows_of_one_more, replies_of_one_more}
use Rattle.issuer_fold.proofs.BackLaws.{leads_back_at_once}
use Rattle.issuer_fold.proofs.in_place.InPlace.decide_each.Goals as goal

pub loop-frame-init : goal.loop-frame-init
loop-frame-init g c = record {
  book = search rules;
  replies = search rules;
  back = leads_back_at_once c.reserve.new.self c.args.book.now c.args.self.now.formers c.reserve.ensures c.requires.formers;
}

pub loop-frame-preserved : goal.loop-frame-preserved
loop-frame-preserved g c =
    let frames = c.args.frames.now in
    let i = c.loop-frame.frame-index in
    let frame = c.frame-item.result in
    let opening = c.args.book.now in
    let so_far = c.loop-frame.invariant in
    let decided = c.in_ok-decide_one.ensures in
    record {
      book = decided.book ∙ ap (λ (rows : Rows). rows_after_one rows frame) so_far.book
          ∙ rows_of_one_more opening frames i frame c.loop-frame-test.true c.frame-item.is;
      replies = rw (decided.replies, so_far.replies, so_far.book) (replies_of_one_more opening frames i frame c.loop-frame-test.true c.frame-item.is);
      back = decided.back opening so_far.back;
    }

pub returns-in_err-decide_one-clause-back : goal.returns-in_err-decide_one-clause-back
returns-in_err-decide_one-clause-back g c = c.in_err-decide_one.ensures.back c.args.book.now c.loop-frame.invariant.back

pub returns-in_err-reserve-clause-back : goal.returns-in_err-reserve-clause-back
returns-in_err-reserve-clause-back g c = leads_back_at_once c.reserve.new.self c.args.book.now c.args.self.now.formers c.reserve.ensures c.requires.formers

pub returns-in_err-reserve-2-clause-back : goal.returns-in_err-reserve-2-clause-back
returns-in_err-reserve-2-clause-back g c = leads_back_at_once c.reserve.new.self c.args.book.now c.args.self.now.formers c.reserve.ensures c.requires.formers

pub returns-in_err-find_if_few-clause-back : goal.returns-in_err-find_if_few-clause-back
returns-in_err-find_if_few-clause-back g c = leads_back_at_once c.reserve.new.self c.args.book.now c.args.self.now.formers c.reserve.ensures c.requires.formers
