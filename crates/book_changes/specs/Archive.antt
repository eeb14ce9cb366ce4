-- Which rows leave a book by a date, the book without them, and the book that holds them.
use Rattle.std.specs.Prelude.{ℕ, Bool, false, ◌&&◌, ◌||◌, not, List}
use Rattle.std.specs.FinMap as map
use Rattle.std.specs.List.{list_any}
use Rattle.std.specs.Ordering.{is_lt}
use Rattle.issuer_words.specs.Words.{RowKey, RowVal, Rows, day_of, is_from_account, text_cmp}
use Rattle.issuer_rows.specs.declared.row_key.RowKey.TheVariants as key
use Rattle.issuer_rows.specs.declared.row_val.RowVal.TheVariants as val
use Rattle.issuer_laws.specs.Rules.{has}

-- the day is earlier than the date, both YYMMDD
abbrev pub is_before : List ℕ → List ℕ → Bool
is_before date day = is_lt (text_cmp day date)

-- The row is of a day before the date: what was spent with a card on such a day, or what is kept of a request or an advice whose local
-- date (element 12) is such a day. Cards, budgets and accounts have no day. The mark of a reversal that came ahead is still open, whatever
-- its day: its original may come.
abbrev pub is_past : List ℕ → RowKey → RowVal → Bool
is_past date (key.Velocity pan day) (val.Velocity spent) = is_before date day
is_past date (key.Original identity) (val.Kept k) = is_before date (day_of identity.stamp)
is_past date _ _ = false

-- such a row stands under the key
abbrev pub is_past_at : List ℕ → Rows → RowKey → Bool
is_past_at date rows k = has (is_past date k) (map.get rows k)

-- it is the account that paid for what is kept here
abbrev pub has_paid : RowKey → RowVal → Bool
has_paid (key.Account id) (val.Kept k) = is_from_account id k
has_paid _ _ = false

-- it is an account that paid for an original of the past
abbrev pub has_paid_before : List ℕ → Rows → RowKey → Bool
has_paid_before date rows k = list_any (λ row. is_past date row.0 row.1 && has_paid k row.1) (map.entries rows)

-- the new book: the book's rows but for those of the past
abbrev pub new_rows : List ℕ → Rows → Rows
new_rows date rows = map.retain_keys rows (λ k. not (is_past_at date rows k))

-- the old one: its rows of the past, and the accounts that paid for one of them, as they stand in the book, since no sound book has an
-- original without them
abbrev pub old_rows : List ℕ → Rows → Rows
old_rows date rows = map.retain_keys rows (λ k. is_past_at date rows k || has_paid_before date rows k)
