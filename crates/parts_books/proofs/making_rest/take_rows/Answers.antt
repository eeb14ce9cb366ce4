use Rattle.std.proofs.Common.{◌&&◌, not, None, sym, ap, ◌∙◌}
use Rattle.std.specs.FinMap as map
use Rattle.issuer_words.specs.Words.{Rows, key_eq}
use Rattle.parts_books.specs.PartBooks.{is_of_account}
use Rattle.parts_books.proofs.Going.{HasGone, failing, get-removed, goes_again, passing}
use Rattle.parts_books.proofs.making_rest.take_rows.Goals.{then-not-is_of_account, else-not-is_of_account}
use Rattle.parts_books.proofs.making_rest.take_rows.Goals as goal

pub loop-key-preserved : goal.loop-key-preserved
loop-key-preserved c =
    let keys = c.args.keys.now in
    let i = c.loop-key.key-index in
    let key = c.key-item.result in
    let between = c.loop-key.rest in
    let after = c.if-not-is_of_account.rest in
    let one : HasGone (λ q. not (is_of_account q) && key_eq q key) (λ q. None) between after =
    elim c.if-not-is_of_account.branch [
      | then-not-is_of_account w ↦ λ q. ap (λ (rows : Rows). map.get rows q) (w.rest-is ∙ w.remove.ensures.after) ∙ passing (λ k. not (is_of_account k)) key (λ k. None) between (map.remove between key) (ap not (sym w.if-not-is_of_account.ensures)) (get-removed between key) q
      | else-not-is_of_account w ↦ λ q. ap (λ (rows : Rows). map.get rows q) w.rest-is ∙ failing (λ k. not (is_of_account k)) key (λ k. None) between (ap not (sym w.if-not-is_of_account.ensures)) q
    ]
    in
    goes_again (λ q. not (is_of_account q)) keys i key (λ q. None) c.args.rest.now between after c.loop-key-test.true (sym c.key-item.is) c.loop-key.invariant one
