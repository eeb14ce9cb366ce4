-- Names that have to be of two files.
use Rattle.std.specs.Prelude.{◌≡◌, ℕ, List, [], ◌∷◌, ◌++◌}
pub use Rattle.app_jobs.specs.Apart.{AreApart, HasOneFile}
use Rattle.app_commands.specs.declared.fault.Fault.{Fault}
use Rattle.app_commands.specs.declared.fault.Fault.TheVariants.{Usage, OutOfMemory}
use Rattle.app_words.specs.Asked.{Asked, Names, blocks, pack, pack_blocks, run, run_with_journal, serial}

-- the pairs of names of a batch that have to be of two files: of what is written, and of what is written and what is read, but that the
-- new book may take the place of the book
abbrev pub batch_apart : Names → List (List ℕ × List ℕ)
batch_apart names = (names.replies, names.new_book) ∷ (names.replies, names.book) ∷ (names.replies, names.batch) ∷ (names.new_book, names.batch) ∷ []

-- those of a journal besides
abbrev pub journal_apart : Names → List ℕ → List (List ℕ × List ℕ)
journal_apart names journal = (journal, names.replies) ∷ (journal, names.new_book) ∷ (journal, names.book) ∷ (journal, names.batch) ∷ []

-- those of a file that is made of texts: it is none of them
abbrev pub made_apart : List ℕ → List (List ℕ) → List (List ℕ × List ℕ)
made_apart made [] = []
made_apart made (text ∷ texts) = (made, text) ∷ made_apart made texts

-- the pairs of names that have to be of two files, for what is asked for
abbrev pub names_apart : Asked → List (List ℕ × List ℕ)
names_apart (serial names strictness) = batch_apart names
names_apart (run names workers engine strictness) = batch_apart names
names_apart (run_with_journal names workers journal strictness) = journal_apart names journal ++ batch_apart names
names_apart (blocks names workers engine strictness) = batch_apart names
names_apart (pack texts batch) = made_apart batch texts
names_apart (pack_blocks texts file) = made_apart file texts
names_apart what = []

-- why names are refused: of some pair both are one, or memory ran out
abbrev pub IsApartFault : Type 0 → List (List ℕ × List ℕ) → Fault → Type 0
IsApartFault known pairs (Usage text) = known → HasOneFile pairs
IsApartFault known pairs OutOfMemory = Unit {0}
IsApartFault known pairs _ = ⊥

-- the same of one pair
abbrev pub IsPairFault : Type 0 → List ℕ → List ℕ → Fault → Type 0
IsPairFault known first second (Usage text) = known → first ≡ second
IsPairFault known first second OutOfMemory = Unit {0}
IsPairFault known first second _ = ⊥
