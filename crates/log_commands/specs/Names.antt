-- The names of a log's files.
use Rattle.std.specs.Prelude.{ℕ, List, [], ◌∷◌}
use Rattle.file_devices.specs.BatchNames.{Names}
pub use Rattle.app_jobs.specs.Apart.{AreApart, HasOneFile}
use Rattle.log_commands.specs.declared.log_names.LogNames.{LogNames}

-- as texts; the log stands where a batch would
abbrev pub names_of : LogNames → Names
names_of names = record { book = names.book.now; batch = names.log.now; replies = names.replies.now; new_book = names.new_book.now }

-- The pairs of names that have to be of two files: what is written is none of the others. The new book may not take the place of the
-- book, which is kept as long as the log is.
abbrev pub log_apart : Names → List (List ℕ × List ℕ)
log_apart names = (names.replies, names.new_book) ∷ (names.replies, names.book) ∷ (names.replies, names.batch) ∷ (names.new_book, names.book) ∷ (names.new_book, names.batch) ∷ []
