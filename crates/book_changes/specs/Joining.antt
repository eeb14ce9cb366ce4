-- What the new book and the old one are together, and that both are sound.
use Rattle.std.specs.Prelude.{◌≡◌, ◌≢◌, ℕ, List, Option, Some, None}
use Rattle.std.specs.FinMap as map
use Rattle.issuer_words.specs.Words.{AccountId, RowKey, RowVal, Rows}
use Rattle.book_laws.specs.CheckBook.{IsSound}
use Rattle.book_changes.specs.Archive.{new_rows, old_rows}

-- the one row, and where there is none the other
abbrev pub or_else : Option RowVal → Option RowVal → Option RowVal
or_else None other = other
or_else (Some v) other = Some v

-- Two books are the parts of a book: each of its rows is a row of one of them or of both, they have no other, and what both have are
-- accounts.
pub record AreParts (one other whole : Rows) : Type 0 where
  pub joined : (k : RowKey) → or_else (map.get one k) (map.get other k) ≡ map.get whole k
  pub joined_back : (k : RowKey) → or_else (map.get other k) (map.get one k) ≡ map.get whole k
  pub shared : (k : RowKey) → map.get one k ≢ None → map.get other k ≢ None → (id : AccountId) × (k ≡ RowKey.Account id)

-- the new book and the old one are the parts of the book
abbrev pub IsPartedBy : List ℕ → Rows → Type 0
IsPartedBy date rows = AreParts (new_rows date rows) (old_rows date rows) rows

-- where nothing is wrong with the book, nothing is wrong with either
abbrev pub LeavesBothSound : List ℕ → Rows → Type 0
LeavesBothSound date rows = IsSound rows → IsSound (new_rows date rows) × IsSound (old_rows date rows)
