use Rattle.std.proofs.Common.{◌≡◌, take, Ok}
use Rattle.serde_json.specs.View.{items_view}
use Rattle.book_laws.specs.Lists.{add_entries}
use Rattle.book_places.proofs.wrong_entries.first_wrong.Given as goal

-- the entries so far were written
abbrev pub invariant-loop-index : goal.invariant-loop-index
invariant-loop-index l = add_entries l.version l.list (items_view (take l.index l.entries)) l.fn.book ≡ Ok l.book
