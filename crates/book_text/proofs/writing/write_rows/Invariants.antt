use Rattle.std.proofs.Common.{drop, map}
use Rattle.std.specs.Map.Iter.{deref_pair}
use Rattle.book_laws.specs.Text.{Adds, JsonText}
use Rattle.book_text.specs.Left.{entries_tokens}
use Rattle.book_text.proofs.writing.write_rows.Given as goal

-- once the entries of the rows that are left are written, those of all rows are
abbrev pub invariant-loop-row : goal.invariant-loop-row
invariant-loop-row l =
    (whole : JsonText) → Adds l.out whole (entries_tokens l.list (map deref_pair (drop l.row-index l.candidates))) → Adds l.initial.out whole (entries_tokens l.list (map deref_pair l.candidates))
