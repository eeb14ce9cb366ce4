-- Which rows the books of parts have, and how books and replies of parts are put together.
use Rattle.std.specs.Prelude.{◌≡◌, ℕ, zero, suc, ◌==◌, Bool, true, false, ◌&&◌, ◌||◌, not, List, [], ◌∷◌, ◌++◌, Option, Some, is_some, length, map, zip}
use Rattle.std.specs.FinMap as map
use Rattle.std.specs.List.{list_any}
use Rattle.issuer_words.specs.Words.{AccountRow, Frame, ReplyBody, RowKey, RowVal, Rows, account_in, card_in, is_same_currency, key_eq, original_in, replies_to, rows_after}
use Rattle.issuer_laws.specs.Parts.{account_keys, may_need, paying_keys, Parted, of_part}
use Rattle.engine_parts.specs.Decided.{list_at}
use Rattle.engine_parts.specs.TwoBooks.{joined_all}

-- ---- the book of a part

-- The accounts without which a row isn't sound: a card's, and the one that paid for an original.
abbrev pub accounts_of : Option RowVal → List RowKey
accounts_of row = account_keys (card_in row) ++ paying_keys (original_in row)

-- those of the rows under these keys
abbrev pub lent_keys : Rows → List RowKey → List RowKey
lent_keys rows [] = []
lent_keys rows (k ∷ ks) = accounts_of (map.get rows k) ++ lent_keys rows ks

-- the key is one of these
abbrev pub is_among : RowKey → List RowKey → Bool
is_among k keys = list_any (key_eq k) keys

-- an account stands there
abbrev pub has_account_at : Rows → RowKey → Bool
has_account_at rows k = is_some (account_in (map.get rows k))

-- The row is for a message: one that it may need, or an account that is lent to it. It doesn't look at such an account, but no sound book
-- has the other rows without it.
abbrev pub is_for : Rows → RowKey → Frame → Bool
is_for rows k frame = is_among k (may_need rows frame) || (has_account_at rows k && is_among k (lent_keys rows (may_need rows frame)))

-- it is for one of these
abbrev pub is_for_one : Rows → List Frame → RowKey → Bool
is_for_one rows frames k = list_any (is_for rows k) frames

-- the rows of the book for these messages
abbrev pub rows_for : Rows → List Frame → Rows
rows_for rows frames = map.retain_keys rows (is_for_one rows frames)

-- the book of a part: the rows for its messages
abbrev pub part_rows : Rows → Parted → ℕ → Rows
part_rows rows ms p = rows_for rows (of_part p ms)

-- ---- the rest

-- a message of these may need the row
abbrev pub may_need_one : Rows → List Frame → RowKey → Bool
may_need_one rows frames k = list_any (λ frame. is_among k (may_need rows frame)) frames

-- the row is an account
abbrev pub is_of_account : RowKey → Bool
is_of_account (RowKey.Account id) = true
is_of_account (RowKey.Card pan) = false
is_of_account (RowKey.Velocity pan day) = false
is_of_account (RowKey.Budget prefix) = false
is_of_account (RowKey.Original identity) = false

-- the rest: the rows that no message may need, and all accounts, since cards and originals of the rest aren't sound without theirs
abbrev pub rest_rows : Rows → List Frame → Rows
rest_rows rows frames = map.retain_keys rows (λ k. is_of_account k || not (may_need_one rows frames k))

-- ---- parts that are decided

-- the replies of a part that is decided alone, on its book
abbrev pub part_replies : Rows → Parted → ℕ → List ReplyBody
part_replies rows ms p = replies_to (part_rows rows ms p) (of_part p ms)

-- its book behind it
abbrev pub part_rows_after : Rows → Parted → ℕ → Rows
part_rows_after rows ms p = rows_after (part_rows rows ms p) (of_part p ms)

-- what is told of a number and of the numbers behind it, so many
abbrev pub each_from : {A : Type 0} → (ℕ → A) → ℕ → ℕ → List A
each_from of from zero = []
each_from of from (suc count) = of from ∷ each_from of (suc from) count

-- what is told of each of so many parts
abbrev pub each_part : {A : Type 0} → (ℕ → A) → ℕ → List A
each_part of count = each_from of 0 count

-- ---- put together

-- both are accounts, and the same
abbrev pub is_same_account_row : Option AccountRow → Option AccountRow → Bool
is_same_account_row (Some one) (Some other) = (one.available == other.available) && is_same_currency one.currency other.currency
is_same_account_row _ _ = false

-- An account stands there as in the rest. Then the part didn't change it.
abbrev pub is_as_in_rest : Rows → Rows → RowKey → Bool
is_as_in_rest rest book k = is_same_account_row (account_in (map.get rest k)) (account_in (map.get book k))

-- The rows of a part's book that go into the whole one: all but accounts that stand there as in the rest, since another part may have
-- changed such an account.
abbrev pub own_rows : Rows → Rows → Rows
own_rows rest book = map.retain_keys book (λ k. not (is_as_in_rest rest book k))

-- the rest, and over it the rows of the parts' books
abbrev pub joined_books : Rows → List Rows → Rows
joined_books rest books = joined_all rest (map (own_rows rest) books)

-- All replies, in the order of arrival: as many as messages, and each part's list has what belongs to the part, in its order. A part
-- without a list has no messages.
pub record AreInArrivalOrder {A : Type 0} (parts : List ℕ) (lists : List (List A)) (all : List A) : Type 0 where
  pub each : length all ≡ length parts
  pub own : (p : ℕ) → list_at lists p ≡ of_part p (zip parts all)
