-- What holds of every state of a run.
use Rattle.std.specs.Prelude.{◌≡◌, ◌≢◌, ℕ, ◌+◌, ◌<◌, ◌≤◌, length, take, List, Some, None, option_map, Contains, ◌⊎◌}
use Rattle.std.specs.FinMap as finite
use Rattle.issuer_words.specs.Words.{Executed, Frame, IsTrueExecution, RowKey, RowVal, Rows, reply_of, rows_after, writes_of}
use Rattle.stm_memory.specs.Entries.{Held, Shelf, value_at, written}
use Rattle.stm_memory.specs.declared.version.Version.{Version}
use Rattle.stm_scheduler.specs.Board.{floor, IsFloored}
use Rattle.stm_scheduler.specs.declared.status.Status.TheVariants as status
use Rattle.stm_core_laws.specs.Log.{AreLogged, Resolve}
use Rattle.stm_core_laws.specs.State.{State, MessageState, message, shelf, validation_of, seats, IsAt}
use Rattle.stm_core_laws.specs.declared.validation.Validation.{Validation}
use Rattle.stm_core_laws.specs.declared.logged.Logged.{Logged}

-- the message is executed, in this incarnation
abbrev pub IsExecutedIn : MessageState → ℕ → Type 0
IsExecutedIn m incarnation = (m.status ≡ status.Executed) × (m.incarnation ≡ incarnation)

-- The incarnation of the message finished: a later one began since, or it is the present one and executed.
abbrev pub WasFinished : MessageState → ℕ → Type 0
WasFinished m incarnation = (incarnation < m.incarnation) ⊎ IsExecutedIn m incarnation

-- A read of the opening book has its value. A read of a version is of one that finished, and a value that still stands at that
-- version is the one that was read.
pub record IsSoundRead (s : State) (read : RowKey × Logged) : Type 0 where
  pub base : read.1.origin ≡ None → read.1.value ≡ finite.get s.opening read.0
  pub was_finished : (v : Version) → read.1.origin ≡ Some v → WasFinished (message s v.index) v.incarnation
  pub stands : (v : Version) (value : RowVal) → read.1.origin ≡ Some v → shelf s read.0 v.index ≡ Some (value_at v.incarnation value) → read.1.value ≡ Some value

-- the message at i finished with this execution: a true one of its frame, whose reads were logged; its reply is kept, and its entries are
-- what it wrote
pub record IsExecutedBy (frames : List Frame) (at : Shelf) (i : ℕ) (m : MessageState) (x : Executed) : Type 0 where
  pub true_one : IsTrueExecution x
  pub of_frame : IsAt frames i x.frame
  pub logged : AreLogged m.log x.reads
  pub reply : m.reply ≡ Some x.reply
  pub values : (row : RowKey) → at row i ≡ option_map (value_at m.incarnation) (written x.writes row)

-- what holds of the message at i
pub record IsKept (s : State) (i : ℕ) (m : MessageState) : Type 0 where
  pub incarnation : m.incarnation ≤ s.limits.incarnation
  -- its log is sound
  pub sound : (read : RowKey × Logged) → Contains m.log read → IsSoundRead s read
  -- executed, it is so by one execution
  pub executed : m.status ≡ status.Executed → (x : Executed) × IsExecutedBy s.frames (shelf s) i m x
  -- else its entries are ESTIMATEs
  pub estimates : m.status ≢ status.Executed → (row : RowKey) (h : Held) → shelf s row i ≡ Some h → h.value ≡ None
  -- if it has a stamp that no floor passes, all that it read resolves as logged
  pub stamped : m.status ≡ status.Executed → (stamp : ℕ) → m.stamp ≡ Some stamp → (stamp ≤ s.board.epoch) × (IsFloored s.board i stamp → Resolve (shelf s) i m.log (length m.log))

-- What holds of a validation: it is of a version that finished; and while that is the present one, if no floor passes the epoch at
-- which it began, all reads that were passed resolve as logged.
pub record IsKeptValidation (s : State) (c : Validation) : Type 0 where
  pub began : c.began ≤ s.board.epoch
  pub was_finished : WasFinished (message s c.version.index) c.version.incarnation
  pub within : c.place ≤ c.reads
  pub reads : IsExecutedIn (message s c.version.index) c.version.incarnation → c.reads ≡ length (message s c.version.index).log
  pub passed : IsExecutedIn (message s c.version.index) c.version.incarnation → IsFloored s.board c.version.index c.began → Resolve (shelf s) c.version.index (message s c.version.index).log c.place

-- the message at i is executed, and its reply and its entries are what is decided on the rows after the messages before it
pub record IsDecidedOn (opening : Rows) (frames : List Frame) (at : Shelf) (i : ℕ) (m : MessageState) : Type 0 where
  pub frame : Frame
  pub of_frame : IsAt frames i frame
  pub executed : m.status ≡ status.Executed
  pub reply : m.reply ≡ Some (reply_of (rows_after opening (take i frames)) frame)
  pub values : (row : RowKey) → at row i ≡ option_map (value_at m.incarnation) (written (writes_of (rows_after opening (take i frames)) frame) row)

-- of every state of a run
pub record Holds (s : State) : Type 0 where
  pub paired : length s.board.marks ≡ length s.frames
  pub slotted : length s.slots ≡ length s.frames
  pub floored : length s.board.floors ≡ length s.frames + 1
  pub seated : length s.validations ≡ seats
  pub within : s.board.committed ≤ length s.frames
  pub epoch : s.board.epoch ≤ s.limits.epoch
  pub floors : (t : ℕ) → floor s.board t ≤ s.board.epoch
  pub messages : (i : ℕ) → IsKept s i (message s i)
  pub validations : (seat : ℕ) (c : Validation) → validation_of s seat ≡ Some c → IsKeptValidation s c
  pub settled : (i : ℕ) → i < s.board.committed → IsDecidedOn s.opening s.frames (shelf s) i (message s i)
