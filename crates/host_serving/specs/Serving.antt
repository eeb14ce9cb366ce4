-- What serving a link comes to: what came on it, the entries that the log has more, the book after them, and what was written on the link.
use Rattle.std.specs.Prelude.{◌≡◌, ⊤, ℕ, List, ◌++◌}
use Rattle.std.specs.List.{AllByRecursion}
use Rattle.issuer_rows.specs.declared.frame.Frame.{Frame}
use Rattle.file_laws.specs.Frames.{AreFramesOf}
use Rattle.link_frames.specs.Incoming.{Incoming, IsIncoming, frames_of, bodies_of}
use Rattle.link_frames.specs.Replies.{AppendsPart}
use Rattle.link_frames.specs.Link.{AreFrames, HasFault}
use Rattle.link_frames.specs.declared.link_fault.LinkFault.TheVariants as link
use Rattle.log_file.specs.declared.log_writer.LogWriter.{LogWriter}
use Rattle.file_laws.specs.declared.log_fault.LogFault.TheVariants.{Failed}
use Rattle.host_serving.specs.Deciding.{Follows, answers_to}
use Rattle.host_serving.specs.Entering.{book_of, Grows, BreaksOff, MayEnter, Enters, StopsEntering}
use Rattle.host_serving.specs.Entries.{all_bodies, AreMessagesOf, HasBody}
use Rattle.host_serving.specs.declared.decider.Decider.{Decider}
use Rattle.host_serving.specs.declared.host.Host.{Host}
use Rattle.host_serving.specs.declared.host_fault.HostFault.{HostFault}
use Rattle.host_serving.specs.declared.host_fault.HostFault.TheVariants.{Link, Log, OutOfMemory}

-- bodies of the frames that come next
pub record CameNext (reads : Type 0) (left : List ℕ) (next : List (List ℕ)) : Type 0 where
  pub incoming : List Incoming
  pub rest : List ℕ
  pub came : reads → AreFrames left (frames_of incoming) rest
  pub are : AllByRecursion IsIncoming incoming
  pub bodies : next ≡ bodies_of incoming

-- The book after a fault: that after these messages. Where a call on the log failed, the messages of the frames that came next are decided
-- too, and not answered; where memory ran out it is of no use.
abbrev pub BookAfter : HostFault → Decider → List Frame → Type 0 → List ℕ → Decider → Type 0
BookAfter (Link fault) old messages reads left new = Follows old new messages
BookAfter (Log Failed) old messages reads left new =
    (incoming : List Incoming) × (next : List Frame) × (rest : List ℕ) × (reads → AreFrames left (frames_of incoming) rest) × AllByRecursion IsIncoming incoming
    × AreFramesOf (bodies_of incoming) next × Follows old new (messages ++ next)
BookAfter fault old messages reads left new = ⊤

-- What was written after a fault: these answers; where one can't be written, or memory ran out for its bytes, a beginning of them.
abbrev pub AnsweredAfter : HostFault → List ℕ → List ℕ → List ℕ → Type 0
AnsweredAfter (Link link.Unwritable) had has text = AppendsPart had has text
AnsweredAfter (Link link.OutOfMemory) had has text = AppendsPart had has text
AnsweredAfter fault had has text = has ≡ had ++ text

-- a fault of the link's bytes is that of the bytes that are left
abbrev pub FaultFits : HostFault → Type 0 → List ℕ → Type 0
FaultFits (Link fault) reads left = reads → HasFault left fault
FaultFits fault reads left = ⊤

-- a fault that is met while frames are read, where these bytes are ahead
abbrev pub StopsReading : HostFault → Type 0 → List ℕ → Type 0
StopsReading (Link fault) reads left = reads → HasFault left fault
StopsReading (Log fault) reads left = ⊥
StopsReading OutOfMemory reads left = ⊤

-- over the file of a log
module _ {G : Type 0} (is_known : G → Type 0) (synced unsynced : G → List ℕ) where
  -- What the log is after a fault: what it had, and these entries, all synced. Where a call on its file failed, some beginning of one more
  -- may stand behind them; where memory ran out while messages were decided, all of it, too.
  abbrev pub LogAfter : HostFault → LogWriter G → LogWriter G → List (List (List ℕ)) → Type 0
  LogAfter (Log Failed) old new entries = (bodies : List (List ℕ)) × BreaksOff is_known synced unsynced old new entries bodies
  LogAfter OutOfMemory old new entries = (bodies : List (List ℕ)) × MayEnter is_known synced unsynced old new entries bodies
  LogAfter fault old new entries = Grows is_known synced unsynced old new entries

  -- the same, and such an entry is of the frames that come next
  abbrev pub LogBehind : HostFault → LogWriter G → LogWriter G → List (List (List ℕ)) → Type 0 → List ℕ → Type 0
  LogBehind (Log Failed) old new entries reads left =
      (bodies : List (List ℕ)) × CameNext reads left bodies × BreaksOff is_known synced unsynced old new entries bodies
  LogBehind OutOfMemory old new entries reads left =
      (bodies : List (List ℕ)) × CameNext reads left bodies × MayEnter is_known synced unsynced old new entries bodies
  LogBehind fault old new entries reads left = Grows is_known synced unsynced old new entries

  -- All frames that came on a link, up to the bytes that are left, were served: the bodies stand in the log, each entry synced, and network
  -- management stands in none; the book is the one after the bodies' messages, decided in order; and all was answered, in the order of the
  -- frames.
  pub record Served (old new : Host G) (reads : Type 0) (bytes left : List ℕ) (puts : Type 0) (had has : List ℕ) : Type 0 where
    pub incoming : List Incoming
    pub entries : List (List (List ℕ))
    pub messages : List Frame
    pub came : reads → AreFrames bytes (frames_of incoming) left
    pub are : AllByRecursion IsIncoming incoming
    pub logged : all_bodies entries ≡ bodies_of incoming
    pub each : AllByRecursion HasBody entries
    pub read : AreMessagesOf entries messages
    pub log : Grows is_known synced unsynced old.log new.log entries
    pub after : Follows old.decider new.decider messages
    pub answered : puts → has ≡ had ++ answers_to (book_of old) incoming messages

  -- Serving a link stopped with a fault. The log has entries more, all synced, of the bodies of a beginning of the frames that came. What
  -- was written are the answers to that beginning, or a beginning of these: no body was answered, not even in part, that isn't in the log. An
  -- entry that may stand behind those is of the frames that come next.
  pub record Stopped (fault : HostFault) (old new : Host G) (reads : Type 0) (bytes : List ℕ) (puts : Type 0) (had has : List ℕ) : Type 0 where
    pub incoming : List Incoming
    pub entries : List (List (List ℕ))
    pub messages : List Frame
    pub left : List ℕ
    pub came : reads → AreFrames bytes (frames_of incoming) left
    pub are : AllByRecursion IsIncoming incoming
    pub logged : all_bodies entries ≡ bodies_of incoming
    pub each : AllByRecursion HasBody entries
    pub read : AreMessagesOf entries messages
    pub log : LogBehind fault old.log new.log entries reads left
    pub after : BookAfter fault old.decider messages reads left new.decider
    pub answered : puts → AnsweredAfter fault had has (answers_to (book_of old) incoming messages)
    pub fits : FaultFits fault reads left

  -- the frames that had come were one turn, and these bytes are left
  pub record EntersNext (old new : Host G) (reads : Type 0) (bytes left : List ℕ) (puts : Type 0) (had has : List ℕ) : Type 0 where
    pub incoming : List Incoming
    pub came : reads → AreFrames bytes (frames_of incoming) left
    pub are : AllByRecursion IsIncoming incoming
    pub entered : Enters is_known synced unsynced incoming old new puts had has

  -- the same, but that it stopped in the turn
  pub record StopsInEntry (fault : HostFault) (old new : Host G) (reads : Type 0) (bytes : List ℕ) (puts : Type 0) (had has : List ℕ) : Type 0 where
    pub incoming : List Incoming
    pub left : List ℕ
    pub came : reads → AreFrames bytes (frames_of incoming) left
    pub are : AllByRecursion IsIncoming incoming
    pub stops : StopsEntering is_known synced unsynced fault incoming old new puts had has
