-- That days are in order on the new book, too.
use Rattle.std.specs.Prelude.{ℕ, List}
use Rattle.issuer_rows.specs.Fold.{Rows}
use Rattle.issuer_laws.specs.Cards.{IsWithinLimits}
use Rattle.issuer_laws.specs.Covered.{AreDaysCovered}
use Rattle.book_changes.specs.Archive.{new_rows}

-- where each day has the approvals and the money of all of its requests that can still be reversed, each has on the new book: no request
-- stays without its day
abbrev pub KeepsDaysCovered : List ℕ → Rows → Type 0
KeepsDaysCovered date rows = AreDaysCovered rows → AreDaysCovered (new_rows date rows)

-- where no day is over its card's limits, none is on the new book
abbrev pub KeepsLimits : List ℕ → Rows → Type 0
KeepsLimits date rows = IsWithinLimits rows → IsWithinLimits (new_rows date rows)
