-- A live host that was opened over the file of a book and the file of a log.
use Rattle.std.specs.Prelude.{◌≡◌, ◌⊎◌, ℕ, List, [], ◌++◌, Ok}
use Rattle.issuer_words.specs.Words.{Frame, Rows}
use Rattle.book_laws.specs.Reading.{reading}
pub use Rattle.book_text.specs.Digest.{book_digest}
use Rattle.file_laws.specs.LogReading.{IsLogOf, IsUnbegun}
use Rattle.host_commands.specs.Standing.{StandsBehind}
use Rattle.host_serving.specs.declared.host.Host.{Host}

-- the bytes are the log of these entries, and a torn tail perhaps; or no log was begun, and there are none
abbrev pub HoldsEntries : List ℕ → List ℕ → List (List (List ℕ)) → Type 0
HoldsEntries digest bytes entries = ((tail : List ℕ) × IsLogOf digest bytes entries tail) ⊎ (IsUnbegun digest bytes × (entries ≡ []))

-- over the file of a log
module _ {G : Type 0} (is_known : G → Type 0) (synced unsynced : G → List ℕ) where
  -- the log of this book had these bytes, and the host stands behind the entries that they hold
  pub record GoesOn (book : Rows) (log : List ℕ) (host : Host G) : Type 0 where
    pub entries : List (List (List ℕ))
    pub messages : List Frame
    pub held : HoldsEntries (book_digest book) log entries
    pub stands : StandsBehind is_known synced unsynced book (book_digest book) entries messages host

  -- the text is read as a book, and the host goes on where the log ends
  pub record IsOpened (text log : List ℕ) (host : Host G) : Type 0 where
    pub book : Rows
    pub read : reading text ≡ Ok book
    pub again : GoesOn book log host
