-- What a writer's file has.
use Rattle.std.specs.Prelude.{◌≡◌, ℕ, false, List, [], ◌++◌, length}
use Rattle.log_file.specs.Growing.{Begins}
use Rattle.file_laws.specs.LogReading.{AreEntries, IsUnbegun}
use Rattle.file_laws.specs.Texts.{entry_text, last_digest, log_text}
use Rattle.log_file.specs.declared.begun.Begun.{Begun}
use Rattle.log_file.specs.declared.begun.Begun.TheVariants.{New, Old}
use Rattle.log_file.specs.declared.log_writer.LogWriter.{LogWriter}

module _ {G : Type 0} (is_known : G → Type 0) (synced unsynced : G → List ℕ) where
  -- the file is the log of these entries, of the book whose text has this digest, and all of it is synced
  pub record HasLog (book : List ℕ) (entries : List (List (List ℕ))) (writer : LogWriter G) : Type 0 where
    pub are : AreEntries entries
    pub known : is_known writer.file
    pub text : synced writer.file ≡ log_text book entries
    pub nothing : unsynced writer.file ≡ []
    pub digest : writer.digest ≡ last_digest book entries
    pub count : writer.entries ≡ length entries

  -- the file is that log and some beginning of one more entry behind it; of that no more is known, and all before it is synced
  pub record IsCutOff (book : List ℕ) (entries : List (List (List ℕ))) (bodies : List (List ℕ)) (file : G) : Type 0 where
    pub known : is_known file
    pub front : List ℕ
    pub begins : Begins front (entry_text (last_digest book entries) bodies)
    pub has : synced file ++ unsynced file ≡ log_text book entries ++ front
    pub keeps : Begins (log_text book entries) (synced file)

  -- what begins a log in this file gave: a log without entries, where none was begun; else the file as it was
  abbrev pub IsBegun : List ℕ → G → Begun G → Type 0
  IsBegun book file (New writer) = (writer.has_failed ≡ false) × (is_known file → IsUnbegun book (synced file ++ unsynced file) × HasLog book [] writer)
  IsBegun book file (Old same) = (same ≡ file) × (is_known file → ¬ IsUnbegun book (synced file ++ unsynced file))
