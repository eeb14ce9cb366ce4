-- Bodies that are kept in one text, each behind its length.
use Rattle.std.specs.Prelude.{◌≡◌, ℕ, List, [], length, Result, Ok, Err}
use Rattle.std.specs.List.{flat_map}
use Rattle.file_laws.specs.Files.{framed, AreBodies}
use Rattle.file_laws.specs.Reading.{bodies_at}
use Rattle.file_laws.specs.declared.batch_fault.BatchFault.{BatchFault}

-- the bodies that were read
abbrev pub bodies_read : Result (List (List ℕ) × List ℕ) BatchFault → List (List ℕ)
bodies_read (Ok read) = read.0
bodies_read (Err fault) = []

-- so many bodies in a text
abbrev pub bodies_in : ℕ → List ℕ → List (List ℕ)
bodies_in count text = bodies_read (bodies_at count text)

-- the text is so many bodies, each behind its length, as an entry can have them
pub record IsFramed (count : ℕ) (text : List ℕ) : Type 0 where
  pub text_is : text ≡ flat_map framed (bodies_in count text)
  pub are : AreBodies (bodies_in count text)
  pub number : length (bodies_in count text) ≡ count
