-- What is wrong first with a book that was read is what reading it answers.
use Rattle.std.proofs.Common.{refl}
use Rattle.std.specs.Prelude.{Ok, Err}
use Rattle.issuer_rows.specs.Fold.{Rows}
use Rattle.book_laws.specs.CheckBook.{IsFirstFault}
use Rattle.book_laws.specs.Reading.{IsAnswer}
use Rattle.book_laws.specs.declared.book_fault.BookFault.{BookFault}
use Rattle.book_laws.specs.declared.json_fault.JsonFault.TheVariants.{Invalid}

pub first_fault_answers : (book : Rows) (wrong : BookFault) → IsFirstFault book wrong → IsAnswer (Ok book) (Err (Invalid wrong))
first_fault_answers book wrong is = (book, refl, is)
