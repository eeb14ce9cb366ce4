use Rattle.std.proofs.Common.{◌≡◌, Bool, false, ◌&&◌, ◌||◌, not, cond, List, ◌∷◌, Some, sym, ap, ◌∙◌, subst}
use Rattle.std.proofs.ByRecursion.{all_shuffled}
use Rattle.std.specs.FinMap as map
use Rattle.std.specs.List.{AllByRecursion}
use Rattle.issuer_rows.proofs.ListedRows.{listed_found}
use Rattle.issuer_words.specs.Words.{IsWithin, Rows, key_eq}
use Rattle.book_changes.specs.Archive.{has_paid, is_past, new_rows, old_rows}
use Rattle.book_changes.proofs.Splitting.{Row, IsGoing, stays, moves, goes_on, goes_by, has_gone, put_seen, new_begins, old_begins, nothing_within}
use Rattle.book_changes.proofs.archiving.archive_book.Goals as goal

pub loop-key-init : goal.loop-key-init
loop-key-init c =
    let same = c.into_iter-key-iterator.ensures.into_iter_gives in
    let book = c.args.book.now in
    let date = c.args.date.now in
    let rows = c.rows-key-items.result in
    let moved = c.rows-key-items.ensures in
    record {
      new_book =
          subst (λ (es : List Row). IsGoing (stays date) es book c.new-new_book.result (new_rows date book)) (sym same)
          (subst (λ (m : Rows). IsGoing (stays date) rows book m (new_rows date book)) (sym c.new-new_book.ensures) (new_begins date book rows moved));
      old =
          subst (λ (es : List Row). IsGoing (moves date) es book c.new-old.result (old_rows date book)) (sym same)
          (subst (λ (m : Rows). IsGoing (moves date) rows book m (old_rows date book)) (sym c.new-old.ensures) (old_begins date book rows moved));
      within = subst (λ (m : Rows). IsWithin m book) (sym c.new-old.ensures) (nothing_within book);
      there =
          subst (λ (es : List Row). AllByRecursion (λ row. map.get book row.0 ≡ Some row.1) es) (sym same)
          (all_shuffled (λ (row : Row). map.get book row.0 ≡ Some row.1) (map.entries book) rows moved (listed_found book));
    }

pub loop-key-preserved : goal.loop-key-preserved
loop-key-preserved c =
    let book = c.args.book.now in
    let date = c.args.date.now in
    let left = c.next.new.self in
    let row : Row = (c.in-Some.key.now, c.in-Some.val.now) in
    let steps : c.loop-key.key-iterator ≡ row ∷ left = c.in-Some.ensures.steps in
    let later : is_past date row.0 row.1 ≡ false = sym c.is_past.ensures ∙ c.if-is_past.false in
    let there = subst (λ (es : List Row). AllByRecursion (λ row. map.get book row.0 ≡ Some row.1) es) steps c.loop-key.invariant.there in
    record {
      new_book =
          goes_on (stays date) row left book c.loop-key.new_book c.put_row.new.other (new_rows date book)
          (subst (λ (es : List Row). IsGoing (stays date) es book c.loop-key.new_book (new_rows date book)) steps c.loop-key.invariant.new_book)
          (λ q.
          ap (λ (m : Rows). map.get m q) c.in_ok-put_row.ensures ∙ put_seen c.loop-key.new_book book row.0 row.1 q there.0
          ∙ ap (λ (b : Bool). cond (not b && key_eq q row.0) (map.get book q) (map.get c.loop-key.new_book q)) (sym later));
      old =
          goes_by (moves date) row left book c.loop-key.old (old_rows date book)
          (subst (λ (es : List Row). IsGoing (moves date) es book c.loop-key.old (old_rows date book)) steps c.loop-key.invariant.old)
          (λ q. ap (λ (b : Bool). b && (key_eq q row.0 || has_paid q row.1)) later);
      within = c.loop-key.invariant.within;
      there = there.1;
    }

pub returns-clause-new_book : goal.returns-clause-new_book
returns-clause-new_book c =
    has_gone (stays c.args.date.now) c.args.book.now c.loop-key.new_book (new_rows c.args.date.now c.args.book.now)
    (subst (λ (es : List Row). IsGoing (stays c.args.date.now) es c.args.book.now c.loop-key.new_book (new_rows c.args.date.now c.args.book.now)) c.in-None.ensures.steps.0 c.loop-key.invariant.new_book)

pub returns-clause-old : goal.returns-clause-old
returns-clause-old c =
    has_gone (moves c.args.date.now) c.args.book.now c.loop-key.old (old_rows c.args.date.now c.args.book.now)
    (subst (λ (es : List Row). IsGoing (moves c.args.date.now) es c.args.book.now c.loop-key.old (old_rows c.args.date.now c.args.book.now)) c.in-None.ensures.steps.0 c.loop-key.invariant.old)
