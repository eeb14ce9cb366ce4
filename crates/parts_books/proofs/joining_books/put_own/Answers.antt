use Rattle.std.proofs.Common.{◌≡◌, List, ◌∷◌, Some, sym, subst}
use Rattle.std.proofs.ByRecursion.{all_shuffled}
use Rattle.std.specs.FinMap as map
use Rattle.std.specs.List.{AllByRecursion}
use Rattle.issuer_rows.proofs.ListedRows.{listed_found}
use Rattle.engine_parts.specs.TwoBooks.{joined}
use Rattle.parts_books.specs.PartBooks.{own_rows}
use Rattle.parts_books.proofs.Going.{Row, IsGoing, all_gone, goes_on, is_own, own_begins}
use Rattle.parts_books.proofs.joining_books.put_own.Goals as goal

pub loop-key-init : goal.loop-key-init
loop-key-init c =
    let same = c.into_iter-key-iterator.ensures.into_iter_gives in
    let rest = c.args.rest.now in
    let book = c.args.book.now in
    let whole = c.args.whole.now in
    let rows = c.rows-key-items.result in
    let moved = c.rows-key-items.ensures in
    record {
      left = subst (λ (es : List Row). IsGoing (is_own rest book) es (map.get book) whole (joined whole (own_rows rest book))) (sym same) (own_begins rest book whole rows moved);
      there =
          subst (λ (es : List Row). AllByRecursion (λ row. map.get book row.0 ≡ Some row.1) es) (sym same)
          (all_shuffled (λ (row : Row). map.get book row.0 ≡ Some row.1) (map.entries book) rows moved (listed_found book));
    }

pub loop-key-preserved : goal.loop-key-preserved
loop-key-preserved c =
    let rest = c.args.rest.now in
    let book = c.args.book.now in
    let all = joined c.args.whole.now (own_rows rest book) in
    let left = c.next.new.self in
    let row : Row = (c.in-Some.key.now, c.in-Some.val.now) in
    let steps : c.loop-key.key-iterator ≡ row ∷ left = c.in-Some.ensures.steps in
    let there = subst (λ (es : List Row). AllByRecursion (λ row. map.get book row.0 ≡ Some row.1) es) steps c.loop-key.invariant.there in
    record {
      left =
          goes_on (is_own rest book) row left (map.get book) c.loop-key.whole c.put_own_row.new.whole all
          (subst (λ (es : List Row). IsGoing (is_own rest book) es (map.get book) c.loop-key.whole all) steps c.loop-key.invariant.left) c.in_ok-put_own_row.ensures;
      there = there.1;
    }

pub returns : goal.returns
returns c =
    let rest = c.args.rest.now in
    let book = c.args.book.now in
    let all = joined c.args.whole.now (own_rows rest book) in
    all_gone (is_own rest book) (map.get book) c.loop-key.whole all
    (subst (λ (es : List Row). IsGoing (is_own rest book) es (map.get book) c.loop-key.whole all) c.in-None.ensures.steps.0 c.loop-key.invariant.left)
