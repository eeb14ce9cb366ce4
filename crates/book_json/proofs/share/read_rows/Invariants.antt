use Rattle.std.proofs.Common.{◌≡◌, []}
use Rattle.book_laws.specs.Text.{Adds, rows_of}
use Rattle.book_text.specs.Left.{tokens_of_entries}
use Rattle.book_json.specs.ReadsOn.{pairs_of}
use Rattle.book_json.proofs.share.read_rows.Given as goal

-- the text is that of the rows so far, all of the list
abbrev pub invariant-loop : goal.invariant-loop
invariant-loop l =
    (rows_of l.list (pairs_of l.rows.items) ≡ pairs_of l.rows.items)
    × Adds (record { text = []; after_value = l.later }) l.out (tokens_of_entries (pairs_of l.rows.items))
