use Rattle.std.proofs.Common.{◌+◌, List, drop, sym, subst}
use Rattle.std.specs.FinMap as map
use Rattle.book_changes.proofs.Splitting.{nothing_within, within_on}
use Rattle.issuer_fold.proofs.FoldLaws.{left_in_turn}
use Rattle.issuer_words.specs.Words.{Frame, IsWithin, Rows}
use Rattle.parts_books.specs.PartBooks.{is_for, rows_for}
use Rattle.parts_books.proofs.Going.{IsGoing, all_gone, goes_on, none_left, part_begins}
use Rattle.parts_books.proofs.making_parts.book_for.Goals as goal

pub loop-frame-init : goal.loop-frame-init
loop-frame-init c = record {
  left = subst (λ (m : Rows). IsGoing (is_for c.args.book.now) c.args.frames.now (map.get c.args.book.now) m (rows_for c.args.book.now c.args.frames.now)) (sym c.new-own.ensures) (part_begins c.args.book.now c.args.frames.now);
  within = subst (λ (m : Rows). IsWithin m c.args.book.now) (sym c.new-own.ensures) (nothing_within c.args.book.now);
}

pub loop-frame-preserved : goal.loop-frame-preserved
loop-frame-preserved c =
    let book = c.args.book.now in
    let frames = c.args.frames.now in
    let i = c.loop-frame.frame-index in
    let frame = c.frame-item.result in
    let left = left_in_turn frames i frame c.loop-frame-test.true c.frame-item.is in
    record {
      left = goes_on (is_for book) frame (drop (i + 1) frames) (map.get book) c.loop-frame.own c.put_for.new.other (rows_for book frames)
          (subst (λ (fs : List Frame). IsGoing (is_for book) fs (map.get book) c.loop-frame.own (rows_for book frames)) left c.loop-frame.invariant.left) c.in_ok-put_for.ensures;
      within = within_on (λ q. is_for book q frame) book c.loop-frame.own c.put_for.new.other c.loop-frame.invariant.within c.in_ok-put_for.ensures;
    }

pub returns : goal.returns
returns c =
    let book = c.args.book.now in
    let frames = c.args.frames.now in
    all_gone (is_for book) (map.get book) c.loop-frame.own (rows_for book frames)
    (subst (λ (fs : List Frame). IsGoing (is_for book) fs (map.get book) c.loop-frame.own (rows_for book frames)) (none_left frames c.loop-frame.frame-index c.loop-frame-test.false) c.loop-frame.invariant.left)
