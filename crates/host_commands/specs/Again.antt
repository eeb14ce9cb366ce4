-- The messages of a log, decided again.
use Rattle.std.specs.Prelude.{ℕ, List, ◌++◌}
use Rattle.issuer_rows.specs.declared.frame.Frame.{Frame}
use Rattle.file_laws.specs.LogReading.{IsLogOf}
use Rattle.log_file.specs.Reads.{EndsAs, HasRead}
use Rattle.log_file.specs.Writes.{HasLog}
use Rattle.log_file.specs.declared.log_end.LogEnd.{LogEnd}
use Rattle.log_file.specs.declared.log_reader.LogReader.{LogReader}
use Rattle.host_serving.specs.Deciding.{Follows}
use Rattle.host_serving.specs.Entries.{AreMessagesOf}
use Rattle.host_serving.specs.declared.decider.Decider.{Decider}
use Rattle.host_serving.specs.declared.host.Host.{Host}

-- the messages of these entries were decided, in order
pub record FollowsEntries (entries : List (List (List ℕ))) (old new : Decider) : Type 0 where
  pub messages : List Frame
  pub are : AreMessagesOf entries messages
  pub after : Follows old new messages

-- some first entries of these bytes were read, and their messages decided
pub record IsUnderWay {R : Type 0} (is_known : R → Type 0) (remaining : R → List ℕ) (digest bytes : List ℕ) (reader : LogReader R) (old new : Decider) : Type 0 where
  pub entries : List (List (List ℕ))
  pub read : HasRead remaining digest bytes entries reader
  pub known : is_known reader.input.source
  pub decided : FollowsEntries entries old new

-- the bytes are a log and a torn tail perhaps, the entries end there, and their messages are decided
pub record IsDecidedAgain (digest bytes : List ℕ) (old new : Decider) (end : LogEnd) : Type 0 where
  pub entries : List (List (List ℕ))
  pub tail : List ℕ
  pub is : IsLogOf digest bytes entries tail
  pub ends : EndsAs digest entries tail end
  pub decided : FollowsEntries entries old new

-- over the file of a log
module _ {G : Type 0} (is_known : G → Type 0) (synced unsynced : G → List ℕ) where
  -- the host goes on with the log in this file: it has its entries, all synced, and their messages are decided
  pub record IsResumed (digest : List ℕ) (file : G) (opening : Decider) (host : Host G) : Type 0 where
    pub entries : List (List (List ℕ))
    pub tail : List ℕ
    pub is : IsLogOf digest (synced file ++ unsynced file) entries tail
    pub log : HasLog is_known synced unsynced digest entries host.log
    pub decided : FollowsEntries entries opening host.decider
