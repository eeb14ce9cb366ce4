use Rattle.std.proofs.Common.{◌≡◌, ◌+◌, not, List, None, drop, sym, ap, ◌∙◌, subst, ◌&&◌, cond}
use Rattle.std.specs.FinMap as map
use Rattle.issuer_fold.proofs.FoldLaws.{left_in_turn}
use Rattle.issuer_laws.specs.Parts.{may_need}
use Rattle.issuer_words.specs.Words.{Frame, RowKey, Rows}
use Rattle.parts_books.specs.PartBooks.{is_among, is_of_account, rest_rows}
use Rattle.parts_books.proofs.Going.{IsGoing, all_gone, goes_on, is_taken, none_left, rest_begins}
use Rattle.parts_books.proofs.making_rest.rest_book.Goals as goal

pub loop-frame-init : goal.loop-frame-init
loop-frame-init c =
    subst (λ (m : Rows). IsGoing (is_taken c.args.book.now) c.args.frames.now (λ q. None) m (rest_rows c.args.book.now c.args.frames.now)) (sym c.in_ok-rest.ensures) (rest_begins c.args.book.now c.args.frames.now)

pub loop-frame-preserved : goal.loop-frame-preserved
loop-frame-preserved c =
    let book = c.args.book.now in
    let frames = c.args.frames.now in
    let i = c.loop-frame.frame-index in
    let frame = c.frame-item.result in
    let left = left_in_turn frames i frame c.loop-frame-test.true c.frame-item.is in
    let keys : c.deref.result.now ≡ may_need book frame = c.deref.ensures.value ∙ c.in_ok-keys.ensures in
    goes_on (is_taken book) frame (drop (i + 1) frames) (λ q. None) c.loop-frame.rest c.take_rows.new.rest (rest_rows book frames)
    (subst (λ (fs : List Frame). IsGoing (is_taken book) fs (λ q. None) c.loop-frame.rest (rest_rows book frames)) left c.loop-frame.invariant)
    (λ q. c.take_rows.ensures q ∙ ap (λ (ks : List RowKey). cond (not (is_of_account q) && is_among q ks) None (map.get c.loop-frame.rest q)) keys)

pub returns : goal.returns
returns c =
    let book = c.args.book.now in
    let frames = c.args.frames.now in
    all_gone (is_taken book) (λ q. None) c.loop-frame.rest (rest_rows book frames)
    (subst (λ (fs : List Frame). IsGoing (is_taken book) fs (λ q. None) c.loop-frame.rest (rest_rows book frames)) (none_left frames c.loop-frame.frame-index c.loop-frame-test.false) c.loop-frame.invariant)
