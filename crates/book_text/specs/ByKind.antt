-- The rows of a book stand by kind, so that those of a list are found without looking at all of them.
use Rattle.std.specs.Prelude.{ℕ, List}
use Rattle.std.specs.List.Sorted.{IsNonDecreasingBy}
use Rattle.issuer_words.specs.Words.{AllOfKind, RowKey, RowVal, kind_of}
use Rattle.book_laws.specs.declared.row_list.RowList.{RowList}
use Rattle.book_laws.specs.declared.row_list.RowList.TheVariants.{Cards, Days, Budgets, Originals, Ahead, Accounts}

-- the place of the kind of a list's rows among the five
abbrev pub kind_of_list : RowList → ℕ
kind_of_list Cards = 0
kind_of_list Days = 1
kind_of_list Budgets = 2
kind_of_list Originals = 3
kind_of_list Ahead = 3
kind_of_list Accounts = 4

-- each row is of its key's kind, and the kinds stand one behind another in their order
pub record StandByKind (rows : List (RowKey × RowVal)) : Type 0 where
  pub kinds : AllOfKind rows
  pub order : IsNonDecreasingBy (λ row. kind_of row.0) rows
