-- What of the files of a run is as it was.
use Rattle.std.specs.Prelude.{◌≢◌}
use Rattle.file_batch.specs.Words.{Holding, IsAsItWas, Names}

-- It is known what the files held before the run. Behind it the book and the batch are as they were then, and the replies and the new
-- book are of two files.
pub record AreInputsKept (known : Type 0) (before after : Holding) (names : Names) : Type 0 where
  pub was_known : known
  pub book : IsAsItWas before after names.book
  pub batch : IsAsItWas before after names.batch
  pub apart : names.replies ≢ names.new_book
