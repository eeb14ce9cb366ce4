-- One turn: the messages of its bodies are decided while their entry is appended to the log and synced, and then all that came is answered.
use Rattle.std.specs.Prelude.{◌≡◌, ◌⊎◌, ℕ, List, [], ◌∷◌, ◌++◌, Result, IfOk, IfErr, OnOk}
use Rattle.issuer_words.specs.Words.{Frame, Rows}
use Rattle.file_laws.specs.Frames.{AreFramesOf}
use Rattle.link_frames.specs.Incoming.{Incoming, bodies_of}
use Rattle.link_frames.specs.Replies.{AppendsPart}
use Rattle.link_frames.specs.declared.link_fault.LinkFault.TheVariants as link
use Rattle.log_file.specs.Writes.{HasLog, IsCutOff}
use Rattle.log_file.specs.declared.log_writer.LogWriter.{LogWriter}
use Rattle.log_file.specs.declared.synced.Synced.{Synced}
use Rattle.file_laws.specs.declared.log_fault.LogFault.{LogFault}
use Rattle.file_laws.specs.declared.log_fault.LogFault.TheVariants.{Failed, OutOfMemory as NoMemory}
use Rattle.host_serving.specs.Deciding.{Follows, answers_to}
use Rattle.host_serving.specs.Turn.{entry_of}
use Rattle.host_serving.specs.declared.host.Host.{Host}
use Rattle.host_serving.specs.declared.host_fault.HostFault.{HostFault}
use Rattle.host_serving.specs.declared.host_fault.HostFault.TheVariants.{Link, Log, OutOfMemory}

-- the book of a host
abbrev pub book_of : {G : Type 0} → Host G → Rows
book_of host = host.decider.prefix.book

-- over the file of a log
module _ {G : Type 0} (is_known : G → Type 0) (synced unsynced : G → List ℕ) where
  -- what the log had stays, and these entries stand behind it, all synced
  abbrev pub Grows : LogWriter G → LogWriter G → List (List (List ℕ)) → Type 0
  Grows old new entries = (digest : List ℕ) (first : List (List (List ℕ))) → HasLog is_known synced unsynced digest first old
      → HasLog is_known synced unsynced digest (first ++ entries) new

  -- the same, but that a call on the log's file failed: some beginning of one entry more, of these bodies, may stand behind them
  abbrev pub BreaksOff : LogWriter G → LogWriter G → List (List (List ℕ)) → List (List ℕ) → Type 0
  BreaksOff old new entries bodies = (digest : List ℕ) (first : List (List (List ℕ))) → HasLog is_known synced unsynced digest first old
      → IsCutOff is_known synced unsynced digest (first ++ entries) bodies new.file

  -- The entry of these bodies was appended, and synced. Where a call on the file failed, some beginning of it may stand there; where memory ran
  -- out, nothing.
  pub record Appends (old new : LogWriter G) (bodies : List (List ℕ)) (result : Result Synced LogFault) : Type 0 where
    pub of : IfOk result (λ entry. entry.bodies.now ≡ bodies)
    pub grows : OnOk result (Grows old new (bodies ∷ []))
    pub fault : IfErr result (λ e. (e ≡ Failed) ⊎ (e ≡ NoMemory))
    pub breaks_off : IfErr result (λ e. e ≡ Failed → BreaksOff old new [] bodies)
    pub same : IfErr result (λ e. e ≡ NoMemory → Grows old new [])

  -- what the log had stays, and these entries stand behind it, all synced; one entry more, of these bodies, may stand behind them, or some
  -- beginning of it
  abbrev pub MayEnter : LogWriter G → LogWriter G → List (List (List ℕ)) → List (List ℕ) → Type 0
  MayEnter old new entries bodies = Grows old new entries ⊎ (Grows old new (entries ++ bodies ∷ []) ⊎ BreaksOff old new entries bodies)

  -- the messages of the bodies were decided, their entry was appended and synced, and all was answered; where no body came, the log and the
  -- book are as they were
  pub record Enters (incoming : List Incoming) (old new : Host G) (puts : Type 0) (had has : List ℕ) : Type 0 where
    pub messages : List Frame
    pub read : AreFramesOf (bodies_of incoming) messages
    pub log : Grows old.log new.log (entry_of (bodies_of incoming))
    pub after : Follows old.decider new.decider messages
    pub answered : puts → has ≡ had ++ answers_to (book_of old) incoming messages

  -- It stopped while the answers were written: the entry is synced.
  pub record StopsAnswering (incoming : List Incoming) (old new : Host G) (puts : Type 0) (had has : List ℕ) : Type 0 where
    pub messages : List Frame
    pub read : AreFramesOf (bodies_of incoming) messages
    pub log : Grows old.log new.log (entry_of (bodies_of incoming))
    pub after : Follows old.decider new.decider messages
    pub answered : puts → AppendsPart had has (answers_to (book_of old) incoming messages)

  -- It stopped while the entry was appended: nothing was written on the link.
  pub record StopsAppending (incoming : List Incoming) (old new : Host G) (puts : Type 0) (had has : List ℕ) : Type 0 where
    pub messages : List Frame
    pub read : AreFramesOf (bodies_of incoming) messages
    pub log : BreaksOff old.log new.log [] (bodies_of incoming)
    pub after : Follows old.decider new.decider messages
    pub unanswered : puts → has ≡ had

  -- Memory ran out while the messages were decided: nothing was written on the link, and the book is of no use. The log may have their entry.
  pub record StopsDeciding (incoming : List Incoming) (old new : Host G) (puts : Type 0) (had has : List ℕ) : Type 0 where
    pub log : MayEnter old.log new.log [] (bodies_of incoming)
    pub unanswered : puts → has ≡ had

  -- Memory ran out before a byte of the entry was written: the log is as it was, and nothing was written on the link.
  pub record StopsBefore (old new : Host G) (puts : Type 0) (had has : List ℕ) : Type 0 where
    pub log : Grows old.log new.log []
    pub unanswered : puts → has ≡ had

  -- which of them it is, by the fault
  abbrev pub StopsEntering : HostFault → List Incoming → Host G → Host G → Type 0 → List ℕ → List ℕ → Type 0
  StopsEntering (Link link.Unwritable) incoming old new puts had has = StopsAnswering incoming old new puts had has
  StopsEntering (Link link.OutOfMemory) incoming old new puts had has = StopsAnswering incoming old new puts had has
  StopsEntering (Link fault) incoming old new puts had has = ⊥
  StopsEntering (Log Failed) incoming old new puts had has = StopsAppending incoming old new puts had has
  StopsEntering (Log fault) incoming old new puts had has = StopsBefore old new puts had has
  StopsEntering OutOfMemory incoming old new puts had has = StopsDeciding incoming old new puts had has
