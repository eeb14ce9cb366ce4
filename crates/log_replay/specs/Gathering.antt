-- Messages that are gathered in blocks, as they come.
use Rattle.std.specs.Prelude.{◌≡◌, ◌<◌, ℕ, List, ◌++◌, length, map}
use Rattle.std.specs.List.{AllByRecursion}
use Rattle.issuer_rows.specs.declared.frame.Frame.{Frame}
use Rattle.file_batch.specs.Words.{AreFramesOf, all_messages}
use Rattle.log_file.specs.Reads.{HasRead}
use Rattle.log_file.specs.declared.log_reader.LogReader.{LogReader}
use Rattle.log_replay.specs.Logged.{IsLogOfMessages, all_bodies}
use Rattle.log_replay.specs.UnderWay.{Begins}
use Rattle.log_replay.specs.declared.gathering.Gathering.{Gathering}

-- the blocks that are full
abbrev pub full_blocks : Gathering → List (List Frame)
full_blocks gathering = map (λ block. block.items) gathering.blocks.items

-- These messages were gathered: in full blocks, and those behind them wait until their block is full.
pub record HasGathered (messages : List Frame) (gathering : Gathering) : Type 0 where
  pub full : AllByRecursion (λ block. length block ≡ 65536) (full_blocks gathering)
  pub are : messages ≡ all_messages (full_blocks gathering) ++ gathering.block.items
  pub room : length gathering.block.items < 65536

-- these messages more were gathered
abbrev pub Gathers : Gathering → Gathering → List Frame → Type 0
Gathers old new more = (messages : List Frame) → HasGathered messages old → HasGathered (messages ++ more) new

-- the messages of so many first bodies were gathered, and these bodies are left
pub record GathersFirst (bodies left : List (List ℕ)) (number : ℕ) (old new : Gathering) : Type 0 where
  pub front : List (List ℕ)
  pub messages : List Frame
  pub count : length front ≡ number
  pub are : bodies ≡ front ++ left
  pub spelled : AreFramesOf front messages
  pub gathers : Gathers old new messages

-- over what the log is read from
module _ {R : Type 0} (is_known : R → Type 0) (remaining : R → List ℕ) where
  -- some first entries were read since it began, so many bodies, and the messages that they spell were gathered
  pub record IsGathering (began reader : LogReader R) (old new : Gathering) (number : ℕ) : Type 0 where
    pub entries : List (List (List ℕ))
    pub messages : List Frame
    pub spelled : AreFramesOf (all_bodies entries) messages
    pub count : number ≡ length (all_bodies entries)
    pub gathers : Gathers old new messages
    pub read : (digest bytes : List ℕ) → Begins is_known remaining digest bytes began → is_known reader.input.source × HasRead remaining digest bytes entries reader

  -- the log was read to its end, and its messages were gathered, so many
  pub record GathersLog (began : LogReader R) (old new : Gathering) (number : ℕ) : Type 0 where
    pub messages : List Frame
    pub count : length messages ≡ number
    pub logged : (digest bytes : List ℕ) → Begins is_known remaining digest bytes began → IsLogOfMessages digest bytes messages
    pub gathers : Gathers old new messages
