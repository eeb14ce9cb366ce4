-- A history that only grows, of which all threads see beginnings: its rule, and what its steps tell.
use Rattle.std.specs.Prelude.{ℕ, ◌≡◌, ◌==◌, ◌<◌, true, List, [], ◌∷◌, ◌++◌, length, MatchBool}
use mathlib.Core.List.{IsPrefix}
use Rattle.logbook.specs.Pages.{Cell, Step, View, Book, Named}
use Rattle.host_links.specs.declared.link_turn.LinkTurn.{LinkTurn}

-- the first word is the length of the history; the second is not used
abbrev pub IsCounted : List Cell → List LinkTurn → Type 0
IsCounted cells turns = cells ≡ (length turns, true) ∷ (0, true) ∷ []

-- the first word of this book
abbrev pub head_of : Book → Named
head_of book = record { tracked = true; key = 0; book = book }

-- the turn was added to all that had been seen; or the history was longer, and was seen
abbrev pub Adds : Step LinkTurn → View LinkTurn ℕ → ℕ → View LinkTurn ℕ → Type 0
Adds step before found after = MatchBool (found == step.old) (after.0 ≡ before.0 ++ step.ask ∷ []) (length after.0 ≡ found)

-- the longer list begins with the other, and goes on
abbrev pub IsLonger : List LinkTurn → List LinkTurn → Type 0
IsLonger turns longer = IsPrefix turns longer × (length turns < length longer)
