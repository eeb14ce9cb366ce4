-- A text is read as one book at most.
use Rattle.std.proofs.Common.{◌≡◌, Result, Ok, sym, ◌∙◌}
use Rattle.issuer_rows.specs.Fold.{Rows}
use Rattle.book_laws.specs.declared.text_fault.TextFault.{TextFault}
use Rattle.app_laws.specs.Files.{IsReadAgain, IsReadFrom}

pub same_ok : (mine theirs : Rows) → (let read : Result Rows TextFault = Ok mine in read ≡ Ok theirs) → mine ≡ theirs
same_ok mine theirs e = cc

pub same_book : (book read : Rows) → IsReadAgain book → IsReadFrom book read → read ≡ book
same_book book read again from = same_ok read book (sym from.0 ∙ again)
