-- Where a reader of a log is.
use Rattle.std.specs.Prelude.{◌≡◌, ℕ, List, [], ◌∷◌, ◌++◌, length}
use Rattle.file_laws.specs.LogReading.{IsLogOf, Stands}
use Rattle.file_laws.specs.Texts.{last_digest, log_text}
use Rattle.log_file.specs.Ahead.{ahead}
use Rattle.log_file.specs.declared.log_end.LogEnd.{LogEnd}
use Rattle.log_file.specs.declared.log_reader.LogReader.{LogReader}
use Rattle.log_file.specs.declared.log_step.LogStep.{LogStep}
use Rattle.log_file.specs.declared.log_step.LogStep.TheVariants.{Entry, End}

-- these entries of a log were read: what is still to be read stands behind them
pub record HasRead {R : Type 0} (remaining : R → List ℕ) (book bytes : List ℕ) (entries : List (List (List ℕ))) (reader : LogReader R) : Type 0 where
  pub stands : Stands book bytes entries (ahead remaining reader.input)
  pub digest : reader.digest ≡ last_digest book entries
  pub count : reader.entries ≡ length entries
  pub place : reader.at ≡ length (log_text book entries)

-- where a log ends whose entries are these, with this torn tail behind them
pub record EndsAs (book : List ℕ) (entries : List (List (List ℕ))) (tail : List ℕ) (end : LogEnd) : Type 0 where
  pub digest : end.digest ≡ last_digest book entries
  pub count : end.entries ≡ length entries
  pub place : end.at ≡ length (log_text book entries)
  pub left : end.tail ≡ length tail

-- one step further: the next entry was read, or the bytes are the log of the entries that were read, and a torn tail
abbrev pub Steps : {R : Type 0} → (R → List ℕ) → List ℕ → List ℕ → List (List (List ℕ)) → LogStep → LogReader R → Type 0
Steps remaining book bytes entries (Entry bodies) reader = HasRead remaining book bytes (entries ++ bodies ∷ []) reader
Steps remaining book bytes entries (End end) reader = (tail : List ℕ) × IsLogOf book bytes entries tail × EndsAs book entries tail end
