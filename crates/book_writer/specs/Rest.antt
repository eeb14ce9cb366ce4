-- A book's text in pieces: what is left of it, and what was made last.
use Rattle.std.specs.Prelude.{ℕ, ◌+◌, ◌*◌, ◌-◌, List, [], length, Bool, drop}
use Rattle.issuer_words.specs.Words.{RowKey, RowVal}
use Rattle.book_laws.specs.declared.row_list.RowList.{RowList}
use Rattle.book_laws.specs.declared.row_list.RowList.TheVariants.{Cards, Days, Budgets, Originals, Ahead, Accounts}
use Rattle.book_text.specs.Left.{text_left, text_of_rows}
use Rattle.book_writer.specs.declared.text_left.TextPlace.{TextPlace}
use Rattle.book_writer.specs.declared.text_left.TextPlace.TheVariants.{Start, In, End}
use Rattle.book_writer.specs.declared.text_left.TextLeft.{TextLeft}

-- what is left of the text at a place, from the row at an index on
abbrev pub rest_at : TextPlace → Bool → ℕ → List (RowKey × RowVal) → List ℕ
rest_at Start later at rows = text_of_rows rows
rest_at (In list) later at rows = text_left later list (drop at rows) rows
rest_at End later at rows = []

-- what is left of the text
abbrev pub rest_of : TextLeft → List ℕ
rest_of left = rest_at left.place left.later left.at left.rows.now

-- the piece that was made last
abbrev pub piece_of : TextLeft → List ℕ
piece_of left = left.text.items

-- how many lists stand behind a list
abbrev pub lists_behind : RowList → ℕ
lists_behind Accounts = 5
lists_behind Ahead = 4
lists_behind Budgets = 3
lists_behind Cards = 2
lists_behind Days = 1
lists_behind Originals = 0

-- how many pieces are left at a place at most, from the row at an index on, of so many rows: of each list one for each row, and one
-- behind them; and the first
abbrev pub left_at : TextPlace → ℕ → ℕ → ℕ
left_at Start at rows = 6 * (rows + 1) + 1
left_at (In list) at rows = lists_behind list * (rows + 1) + (rows - at) + 1
left_at End at rows = 0

-- how many pieces are left at most
abbrev pub pieces_left : TextLeft → ℕ
pieces_left left = left_at left.place left.at (length left.rows.now)
