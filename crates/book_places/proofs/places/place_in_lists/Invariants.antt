use Rattle.std.proofs.Common.{◌≡◌, take, Ok}
use Rattle.serde_json.specs.View.{view}
use Rattle.book_laws.specs.Reading.{add_lists}
use Rattle.book_places.proofs.places.place_in_lists.Given as goal

-- the lists so far were read
abbrev pub invariant-loop-list : goal.invariant-loop-list
invariant-loop-list l = add_lists l.version (take l.list-index l.lists) (view l.top) l.fn.book ≡ Ok l.book
