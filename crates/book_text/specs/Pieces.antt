-- What stands before the first list of a book's text, between its lists, and behind the last one.
use Rattle.std.specs.Prelude.{List, [], ◌∷◌, Option, Some, None, codes, decimal}
use Rattle.json.specs.Token.{Token, key, number, begin_array, begin_object, end_array, end_object}
use Rattle.book_laws.specs.Parts.{list_key}
use Rattle.book_laws.specs.declared.row_list.RowList.{RowList}
use Rattle.book_laws.specs.declared.row_list.RowList.TheVariants.{Cards, Days, Budgets, Originals, Ahead, Accounts}

-- the list behind a list
abbrev pub next_list : RowList → Option RowList
next_list Accounts = Some Ahead
next_list Ahead = Some Budgets
next_list Budgets = Some Cards
next_list Cards = Some Days
next_list Days = Some Originals
next_list Originals = None

-- what stands before the entries of the first list
abbrev pub first_tokens : List Token
first_tokens = begin_object ∷ key (list_key Accounts) ∷ begin_array ∷ []

-- what stands between the entries of a list and those of the next one
abbrev pub between : RowList → List Token
between next = end_array ∷ key (list_key next) ∷ begin_array ∷ []

-- what stands behind the entries of the last list
abbrev pub last_tokens : List Token
last_tokens = end_array ∷ key (codes "version") ∷ number (decimal 3) ∷ end_object ∷ []
