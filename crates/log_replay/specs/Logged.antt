-- The messages of a log.
use Rattle.std.specs.Prelude.{◌≡◌, ℕ, List, length}
use Rattle.issuer_rows.specs.declared.frame.Frame.{Frame}
pub use Rattle.book_text.specs.Digest.{book_digest}
pub use Rattle.file_laws.specs.Files.{all_bodies}
use Rattle.file_laws.specs.Frames.{AreFramesOf}
use Rattle.file_laws.specs.LogReading.{IsLogOf}
use Rattle.log_replay.specs.declared.log_size.LogSize.{LogSize}

-- The bytes are a log of the book that has this digest, with a torn tail behind it perhaps. These are the messages that its bodies spell,
-- in order, or the fault of a body that spells none.
pub record IsLogOfMessages (digest bytes : List ℕ) (messages : List Frame) : Type 0 where
  pub entries : List (List (List ℕ))
  pub tail : List ℕ
  pub is : IsLogOf digest bytes entries tail
  pub spelled : AreFramesOf (all_bodies entries) messages

-- the bytes are a log of so many bodies, and a torn tail of so many bytes
pub record IsLogOfSize (digest bytes : List ℕ) (count torn : ℕ) : Type 0 where
  pub entries : List (List (List ℕ))
  pub tail : List ℕ
  pub is : IsLogOf digest bytes entries tail
  pub bodies : count ≡ length (all_bodies entries)
  pub left : torn ≡ length tail

abbrev pub HasSize : List ℕ → List ℕ → LogSize → Type 0
HasSize digest bytes size = IsLogOfSize digest bytes size.messages size.torn
