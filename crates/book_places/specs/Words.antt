-- What is wrong with a book, in words.
use Rattle.std.specs.Prelude.{ℕ, List, [], ◌++◌, codes, decimal}
use Rattle.iso_shown.specs.Masked.{masked}
use Rattle.book_laws.specs.Parts.{list_key}
use Rattle.book_laws.specs.declared.row_list.RowList.{RowList}
use Rattle.book_places.specs.declared.book_place.BookPlace.{BookPlace}
use Rattle.book_places.specs.declared.book_place.BookPlace.TheVariants as place
use Rattle.book_places.specs.declared.field_kind.FieldKind.{FieldKind}
use Rattle.book_places.specs.declared.field_kind.FieldKind.TheVariants as kind
use Rattle.book_places.specs.declared.wrong_entry.WrongEntry.{WrongEntry}
use Rattle.book_places.specs.declared.wrong_entry.WrongEntry.TheVariants as entry
use Rattle.book_places.specs.declared.wrong_row.WrongRow.{WrongRow}
use Rattle.book_places.specs.declared.wrong_row.WrongRow.TheVariants as row

-- what a field is to hold
abbrev pub kind_words : FieldKind → List ℕ
kind_words kind.Account = codes "a name of 1 to 28 printable characters"
kind_words kind.OptionalAccount = codes "a name of 1 to 28 printable characters, or null"
kind_words kind.Acquirer = codes "1 to 11 digits"
kind_words kind.Action = codes "three digits"
kind_words kind.Currency = codes "three digits"
kind_words kind.Amount = codes "a number up to 999999999999"
kind_words kind.OptionalApproval = codes "six letters, digits and spaces, or null"
kind_words kind.Count = codes "a number up to 999999"
kind_words kind.Day = codes "a day as YYMMDD"
kind_words kind.Identity = codes "an identity: acquirer, stamp and trace"
kind_words kind.OptionalIdentity = codes "an identity: acquirer, stamp and trace, or null"
kind_words kind.Kind = codes "request or advice"
kind_words kind.Mode = codes "direct or stand-in"
kind_words kind.Money = codes "a number up to 10^15"
kind_words kind.Month = codes "a month as YYMM"
kind_words kind.Paid = codes "nothing, account or budget"
kind_words kind.PaidByCard = codes "nothing, card or budget"
kind_words kind.Pan = codes "12 to 19 digits"
kind_words kind.Prefix = codes "six digits"
kind_words kind.Processing = codes "six digits"
kind_words kind.Trace = codes "six digits"
kind_words kind.Stamp = codes "a time as YYMMDDhhmmss"
kind_words kind.Status = codes "active, blocked, lost or stolen"

-- what is wrong with an entry
abbrev pub entry_words : WrongEntry → List ℕ
entry_words entry.Keys = codes ": it hasn't the keys of its list"
entry_words (entry.Field key of) = codes "." ++ key.now ++ codes ": not " ++ kind_words of
entry_words (entry.Month key month) = codes "." ++ key.now ++ codes ": month " ++ month
entry_words entry.Together = codes ": no original can be so"
entry_words entry.Twice = codes ": an earlier entry has its row"

-- what is wrong with a row
abbrev pub row_words : WrongRow → List ℕ
row_words (row.CardNumber pan) = codes ".pan: " ++ masked pan.pan.0 ++ codes " fails the Luhn test"
row_words (row.NoAccount key) = codes "." ++ key.now ++ codes ": this account isn't in the book"
row_words row.SameAccounts = codes ".second: it is the first account again"

-- the entry of this number of the list
abbrev pub entry_at : RowList → ℕ → List ℕ
entry_at list number = list_key list ++ codes "[" ++ decimal number ++ codes "]"

-- where a text that is no sound book is wrong, and why
abbrev pub book_words : BookPlace → List ℕ
book_words (place.Syntax line column) = codes "line " ++ decimal line ++ codes ", column " ++ decimal column ++ codes ": no JSON"
book_words place.Keys = codes "it has the keys of no version"
book_words place.Version = codes "version: not that of the keys"
book_words (place.List list) = list_key list ++ codes ": no list"
book_words (place.Entry list number wrong) = entry_at list number ++ entry_words wrong
book_words (place.Row list number wrong) = entry_at list number ++ row_words wrong
book_words place.Backing = codes "an account or a prefix is backed by over 10^15"
