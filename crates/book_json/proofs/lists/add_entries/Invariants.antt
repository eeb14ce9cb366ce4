use Rattle.std.proofs.Common.{◌≡◌, drop}
use Rattle.serde_json.specs.View.{items_view}
use Rattle.book_laws.specs.Lists.{add_entries}
use Rattle.book_json.proofs.lists.add_entries.Given as goal

-- what is left, written to the book as it is, gives what all gives
abbrev pub invariant-loop-entry : goal.invariant-loop-entry
invariant-loop-entry l =
    add_entries l.version l.list (items_view (drop l.entry-index l.entries)) l.book ≡ add_entries l.version l.list (items_view l.entries) l.fn.book
