-- The names of the files of a batch, as texts.
use Rattle.std.specs.Prelude.{ℕ, List, string_bytes}
use Rattle.file_devices.specs.declared.batch_names.BatchNames.{BatchNames}

-- what is read, and what is written
pub record Names : Type 0 where
  pub book : List ℕ
  pub batch : List ℕ
  pub replies : List ℕ
  pub new_book : List ℕ

-- as the names spell them
abbrev pub names_of : BatchNames → Names
names_of names =
    record {
      book = string_bytes names.book;
      batch = string_bytes names.batch;
      replies = string_bytes names.replies;
      new_book = string_bytes names.new_book;
    }
