use Rattle.std.proofs.Common.{◌≡◌, ℕ, ◌+◌, ◌-◌, ◌<◌, List, Some, length, zip, slice_get, sym, ap, ◌∙◌, subst, arith}
use Rattle.std.specs.List.{AllByRecursion}
use Rattle.issuer_fold.proofs.FoldLaws.{length-replies_to}
use Rattle.issuer_laws.specs.Parts.{AreApart}
use Rattle.issuer_words.specs.Words.{replies_to, rows_after}
use Rattle.engine_parts.specs.Decided.{bodies_of}
use Rattle.engine_parts.specs.declared.decided_part.DecidedPart.{DecidedPart}
use Rattle.engine_parts.proofs.WholeLaws.{have_parts, whole_book}
use Rattle.engine_parts.proofs.running.decide_apart.Goals as goal

pub returns : goal.returns
returns g c =
    let opening = c.args.book.now in
    let frames = c.args.frames.now in
    let plan = c.args.plan.now in
    let parts = c.parts-parts.result.now in
    let found = c.in_ok-others in
    let ones = c.deref.result.now in
    let parts_are : parts ≡ plan.parts = c.parts-parts.ensures.parts in
    let ones_are : ones ≡ found.others.items = c.deref.ensures.value in
    let same : length parts ≡ length frames = ap length parts_are ∙ c.requires.each in
    let apart = subst (λ (ps : List ℕ). AreApart opening (zip ps frames)) (sym parts_are) c.requires.apart in
    let long : length ones ≡ c.count-count.result - 1 = ap length ones_are ∙ found.ensures.others in
    let count_is : plan.count ≡ length ones + 1 = omega (arith, long, c.count-count.ensures.count, c.count-count.ensures.some) in
    let below = subst (λ (n : ℕ). AllByRecursion (λ part. part < n) parts) count_is c.parts-parts.ensures.below in
    let each = λ (p : ℕ) (one : DecidedPart) (at : slice_get ones p ≡ Some one).
    found.ensures.decided p one (subst (λ (os : List DecidedPart). slice_get os p ≡ Some one) ones_are at) in
    let own_replies = found.ensures.replies ∙ ap (λ (n : ℕ). replies_to opening (bodies_of n parts frames)) (sym long) in
    let own_book = found.ensures.book ∙ ap (λ (n : ℕ). rows_after opening (bodies_of n parts frames)) (sym long) in
    record {
      replies = c.in_ok-book.ensures.replies (replies_to opening frames) (length-replies_to opening frames ∙ sym same)
          (have_parts opening parts frames ones found.mine.replies.items same apart each own_replies);
      book = c.in_ok-book.ensures.book ∙ whole_book opening parts frames ones found.mine.book same apart below each own_book;
      started = (omega (arith, c.count-count.ensures.some), omega (arith, c.requires.most, c.count-count.ensures.count));
      committed = omega arith;
    }
