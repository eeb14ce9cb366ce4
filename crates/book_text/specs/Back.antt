-- That a book's text is read as the book.
use Rattle.std.specs.Prelude.{◌≡◌, List, Result, Ok}
use Rattle.std.specs.Coded.{Coded, Coded-set, coded_result, Π_prop}
use Rattle.std.specs.FinMap as map
use Rattle.issuer_rows.specs.contracts.row_key.RowKey.{the_row as key_row}
use Rattle.issuer_rows.specs.contracts.row_val.RowVal.{the_row as val_row}
use Rattle.issuer_words.specs.Words.{RowKey, RowVal, Rows}
use Rattle.book_laws.specs.Reading.{reading}
use Rattle.book_laws.specs.Text.{book_text}
use Rattle.book_laws.specs.contracts.text_fault.TextFault.{the_row as fault_row}
use Rattle.book_laws.specs.declared.text_fault.TextFault.{TextFault}

-- the text of the book that has these rows is read as the book
abbrev pub IsReadAsBook : List (RowKey × RowVal) → Type 0
IsReadAsBook rows = (book : Rows) → rows ≡ map.entries book → reading (book_text book) ≡ Ok book

-- it is a fact: it has one proof at most
pub IsReadAsBook-prop : (rows : List (RowKey × RowVal)) → IsProp (IsReadAsBook rows)
IsReadAsBook-prop rows =
    let readings : Coded (Result Rows TextFault) = coded_result (map.code key_row.coded val_row.coded) fault_row.coded in
    Π_prop (λ book. Π_prop (λ are. Coded-set readings _ _))
