-- What holds of a host that several links share, whenever no link has its turn.
use Rattle.std.specs.Prelude.{◌≡◌, ℕ, List, ◌++◌, Option, Some, None, IfSome, slice_get}
use Rattle.std.specs.List.{AllByRecursion}
use Rattle.issuer_rows.specs.Fold.{Rows, rows_after}
use Rattle.log_file.specs.declared.log_writer.LogWriter.{LogWriter}
use Rattle.host_serving.specs.Entering.{Grows, book_of}
use Rattle.host_serving.specs.Serving.{LogAfter}
use Rattle.host_serving.specs.Tally.{counted}
use Rattle.host_serving.specs.declared.host.Host.{Host}
use Rattle.host_serving.specs.declared.host_fault.HostFault.{HostFault}
use Rattle.host_serving.specs.declared.tally.Tally.{Tally}
use Rattle.host_links.specs.Turns.{IsTurnOfLink, turns_of, messages_of, entries_of}
use Rattle.host_links.specs.declared.link_turn.LinkTurn.{LinkTurn}

-- the book is the one after the messages of all turns, in order, and they are counted
pub record IsAfter {G : Type 0} (opening : Rows) (before : Tally) (host : Host G) (turns : List LinkTurn) : Type 0 where
  pub book : book_of host ≡ rows_after opening (messages_of turns)
  pub tally : host.decider.tally ≡ counted before (messages_of turns)

-- each count is how many of the turns are its link's
abbrev pub AreCounts : List ℕ → List LinkTurn → Type 0
AreCounts counts turns = (link count : ℕ) → slice_get counts link ≡ Some count → count ≡ turns_of link turns

-- over the file of a log
module _ {G : Type 0} (is_known : G → Type 0) (synced unsynced : G → List ℕ) where
  -- The log has the entries of all turns, all synced. After a fault it may have more, of a turn that nobody was answered, the last one cut off
  -- where a call on its file failed.
  abbrev pub LogStands : Option HostFault → LogWriter G → LogWriter G → List LinkTurn → Type 0
  LogStands None old new turns = Grows is_known synced unsynced old new (entries_of turns)
  LogStands (Some fault) old new turns = (more : List (List (List ℕ))) × LogAfter is_known synced unsynced fault old new (entries_of turns ++ more)

  -- All turns are whole frames of their links. The log, where it is named how it was, has their entries; until a fault the book is the one
  -- after their messages.
  pub record IsKept (opening : Rows) (before : Tally) (first : Option (LogWriter G)) (host : Host G) (fault : Option HostFault) (numbers : List ℕ) (turns : List LinkTurn) : Type 0 where
    pub are : AllByRecursion IsTurnOfLink turns
    pub log : IfSome first (λ old. LogStands fault old host.log turns)
    pub after : fault ≡ None → IsAfter opening before host turns
    pub counts : AreCounts numbers turns

  -- the same, by the host before the first turn
  pub record IsBehind (old new : Host G) (fault : Option HostFault) (turns : List LinkTurn) : Type 0 where
    pub are : AllByRecursion IsTurnOfLink turns
    pub log : LogStands fault old.log new.log turns
    pub after : fault ≡ None → IsAfter (book_of old) old.decider.tally new turns
