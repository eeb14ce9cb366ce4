use Rattle.std.proofs.Common.{◌++◌, List, sym, ap, ◌∙◌}
use Rattle.std.specs.FinMap as map
use Rattle.issuer_rows.specs.declared.row_key.RowKey.{RowKey}
use Rattle.parts_books.proofs.Going.{lent_next}
use Rattle.parts_books.specs.PartBooks.{accounts_of}
use Rattle.parts_books.proofs.keys.lent_keys.Goals as goal

pub loop-key-preserved : goal.loop-key-preserved
loop-key-preserved c =
    let book = c.args.book.now in
    let key = c.key-item.result in
    c.in_ok-push_accounts_of.ensures ∙ ap (λ (ks : List RowKey). ks ++ accounts_of (map.get book key)) c.loop-key.invariant
    ∙ sym (lent_next book c.args.keys.now c.loop-key.key-index key c.loop-key-test.true (sym c.key-item.is))
