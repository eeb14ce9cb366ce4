use Rattle.std.proofs.Common.{◌≡◌, drop}
use Rattle.serde_json.specs.View.{view}
use Rattle.book_laws.specs.Reading.{add_lists}
use Rattle.book_json.proofs.reading.add_lists.Given as goal

-- the lists that are left, written to the book as it is, give what all give
abbrev pub invariant-loop-list : goal.invariant-loop-list
invariant-loop-list l =
    add_lists l.version (drop l.list-index l.lists) (view l.top) l.book ≡ add_lists l.version l.lists (view l.top) l.fn.book
