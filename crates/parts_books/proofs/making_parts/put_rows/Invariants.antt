use Rattle.std.proofs.Common.{◌≡◌, cond, take}
use Rattle.std.specs.FinMap as map
use Rattle.issuer_words.specs.Words.{IsWithin, RowKey}
use Rattle.parts_books.specs.PartBooks.{is_among}
use Rattle.parts_books.proofs.making_parts.put_rows.Given as goal

-- the rows under the keys before this one are there
abbrev pub invariant-loop-key : goal.invariant-loop-key
invariant-loop-key l = record {
  put : (q : RowKey) → map.get l.other q ≡ cond (is_among q (take l.key-index l.keys)) (map.get l.book q) (map.get l.fn.other q);
  within : IsWithin l.other l.book;
}
