-- A log that is read and decided, entry by entry.
use Rattle.std.specs.Prelude.{◌≡◌, ℕ, List, [], length}
use Rattle.issuer_rows.specs.declared.frame.Frame.{Frame}
use Rattle.file_laws.specs.Frames.{AreFramesOf}
use Rattle.log_file.specs.Reads.{HasRead}
use Rattle.log_file.specs.declared.log_reader.LogReader.{LogReader}
use Rattle.log_replay.specs.Answering.{Takes, taken}
use Rattle.log_replay.specs.Logged.{IsLogOfMessages, all_bodies}
use Rattle.log_replay.specs.declared.answering.Answering.{Answering}

-- over what the log is read from
module _ {R : Type 0} (is_known : R → Type 0) (remaining : R → List ℕ) where
  -- the reader is at the first entry of the log that these bytes are, which are known
  abbrev pub Begins : List ℕ → List ℕ → LogReader R → Type 0
  Begins digest bytes reader = is_known reader.input.source × HasRead remaining digest bytes [] reader

  -- some first entries were read since it began, and the messages that they spell were taken
  pub record IsUnderWay (began reader : LogReader R) (old new : Answering) (puts : Type 0) (had has : List ℕ) : Type 0 where
    pub entries : List (List (List ℕ))
    pub messages : List Frame
    pub spelled : AreFramesOf (all_bodies entries) messages
    pub number : taken new ≡ length (all_bodies entries)
    pub takes : Takes old new messages puts had has
    pub read : (digest bytes : List ℕ) → Begins digest bytes began → is_known reader.input.source × HasRead remaining digest bytes entries reader

  -- the log was read to its end, and its messages were taken
  pub record TakesLog (began : LogReader R) (old new : Answering) (puts : Type 0) (had has : List ℕ) : Type 0 where
    pub messages : List Frame
    pub logged : (digest bytes : List ℕ) → Begins digest bytes began → IsLogOfMessages digest bytes messages
    pub takes : Takes old new messages puts had has
