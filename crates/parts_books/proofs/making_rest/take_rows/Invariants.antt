use Rattle.std.proofs.Common.{◌≡◌, ◌&&◌, not, cond, take, None}
use Rattle.std.specs.FinMap as map
use Rattle.issuer_rows.specs.declared.row_key.RowKey.{RowKey}
use Rattle.parts_books.specs.PartBooks.{is_among, is_of_account}
use Rattle.parts_books.proofs.making_rest.take_rows.Given as goal

-- the rows under the keys before this one are taken
abbrev pub invariant-loop-key : goal.invariant-loop-key
invariant-loop-key l =
    (q : RowKey) → map.get l.rest q ≡ cond (not (is_of_account q) && is_among q (take l.key-index l.keys)) None (map.get l.fn.rest q)
