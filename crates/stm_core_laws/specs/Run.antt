-- Whole lists of calls, in any order, and what is committed after them.
use Rattle.std.specs.Prelude.{◌≡◌, ℕ, ◌<◌, List, [], ◌∷◌, take, filter_map, Bool, Result}
use Rattle.issuer_words.specs.Words.{Executed, Frame, IsTrueExecution, ReplyBody, RowKey, Rows, replies_to, rows_after}
use Rattle.stm_memory.specs.Resolves.{IsLaidOver}
use Rattle.stm_memory.specs.declared.version.Version.{Version}
use Rattle.stm_scheduler.specs.declared.task.Task.{Task}
use Rattle.stm_core_laws.specs.State.{State, seats, shelf, start}
use Rattle.stm_core_laws.specs.Step.{ClaimStep, ReadStep, BlockStep, FinishStep, BeginStep, ValidationStep, EndStep, CommitStep}
use Rattle.stm_core_laws.specs.declared.core_fault.CoreFault.{CoreFault}
use Rattle.stm_core_laws.specs.declared.got.Got.{Got}

-- a call with its answer
pub data Call : Type 0 where
  Claim : Task → Call
  Read : Version → RowKey → Result Got CoreFault → Call
  Block : Version → ℕ → Result (Unit {0}) CoreFault → Call
  Finish : Version → Executed → Result Bool CoreFault → Call
  Begin : ℕ → Version → Result Bool CoreFault → Call
  ValidateOne : ℕ → Result Bool CoreFault → Call
  End : ℕ → Result Bool CoreFault → Call
  Commit : Bool → Call

-- From old, the call may be answered so, and new is the state after it. An execution that is handed in is a true one, and a
-- seat is one of those that there are.
abbrev pub Step : State → Call → State → Type 0
Step old (Claim task) new = ClaimStep old task new
Step old (Read v row answer) new = ReadStep old v row answer new
Step old (Block v on answer) new = BlockStep old v on answer new
Step old (Finish v execution answer) new = IsTrueExecution execution × FinishStep old v execution answer new
Step old (Begin seat v answer) new = (seat < seats) × BeginStep old seat v answer new
Step old (ValidateOne seat answer) new = (seat < seats) × ValidationStep old seat answer new
Step old (End seat answer) new = (seat < seats) × EndStep old seat answer new
Step old (Commit answer) new = CommitStep old answer new

-- these calls may be answered so, one after another
abbrev pub Run : State → List Call → State → Type 0
Run old [] new = new ≡ old
Run old (call ∷ calls) new = (mid : State) × Step old call mid × Run mid calls new

-- some list of calls leads there from the opening state
unfoldable pub IsReached : State → Type 0
IsReached s = (calls : List Call) × Run (start s.opening s.frames s.limits) calls s

-- the replies to the committed messages
abbrev pub committed_replies : State → List ReplyBody
committed_replies s = filter_map (λ kept. kept.reply) (take s.board.committed s.slots)

-- the committed replies are those of deciding as many messages one after another
abbrev pub RepliesAreTheFold : Rows → List Frame → State → Type 0
RepliesAreTheFold opening frames s = committed_replies s ≡ replies_to opening (take s.board.committed frames)

-- The book after deciding as many messages one after another is the opening book with each row as the next message sees it, which is what
-- the last of the committed messages that wrote it wrote.
abbrev pub RowsAreTheFold : Rows → List Frame → State → Type 0
RowsAreTheFold opening frames s = IsLaidOver (shelf s) s.board.committed opening (rows_after opening (take s.board.committed frames))
