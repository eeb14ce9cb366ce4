use Rattle.std.proofs.Common.{true, sym, ap, ◌∙◌}
use Rattle.std.specs.FinMap as map
use Rattle.book_changes.proofs.Splitting.{within_on}
use Rattle.issuer_words.specs.Words.{Rows, key_eq}
use Rattle.parts_books.proofs.Going.{HasGone, goes_again, none_here, put_here}
use Rattle.parts_books.proofs.making_parts.put_rows.Goals.{in-Some+in_ok-put_copy, in_default}
use Rattle.parts_books.proofs.making_parts.put_rows.Goals as goal

pub loop-key-preserved : goal.loop-key-preserved
loop-key-preserved c =
    let book = c.args.book.now in
    let keys = c.args.keys.now in
    let i = c.loop-key.key-index in
    let key = c.key-item.result in
    let between = c.loop-key.other in
    let after = c.match-row.other in
    let one : HasGone (λ q. key_eq q key) (map.get book) between after =
    elim c.match-row.branch [
      | in-Some+in_ok-put_copy w ↦ λ q. ap (λ (rows : Rows). map.get rows q) (w.other-is ∙ w.in_ok-put_copy.ensures.ok) ∙ put_here between book key w.in-Some.val.now (sym w.in-Some.ensures.value) q
      | in_default w ↦ λ q. ap (λ (rows : Rows). map.get rows q) w.other-is ∙ none_here between book key c.loop-key.invariant.within (sym w.in_default.ensures.value) q
    ]
    in
    record {
      put = goes_again (λ q. true) keys i key (map.get book) c.args.other.now between after c.loop-key-test.true (sym c.key-item.is) c.loop-key.invariant.put one;
      within = within_on (λ q. key_eq q key) book between after c.loop-key.invariant.within one;
    }
