-- Which message is handed out next, by the two cursors (Block-STM).
use Rattle.std.specs.Prelude.{◌≡◌, ◌≢◌, ◌⊎◌, ℕ, ◌+◌, ◌<◌, ◌≤◌, List, length, slice_index_or, refl}
use Rattle.std.specs.Coded.{Coded, code_by, coded×, coded_ℕ}
use Rattle.stm_memory.specs.declared.version.Version.{Version}
use Rattle.stm_scheduler.specs.Board.{Board, mark, fresh_mark, claimed, open_board, IsReady, IsOpen}
use Rattle.stm_scheduler.specs.declared.message_progress.MessageProgress.{MessageProgress}
use Rattle.stm_scheduler.specs.declared.status.Status.TheVariants as status
use Rattle.stm_scheduler.specs.declared.task.Task.{Task}
use Rattle.stm_scheduler.specs.declared.task.Task.TheVariants.{Execute, Validate, Idle, Done}

-- the board, the execution cursor and the validation cursor
pub record Schedule : Type 0 where
  pub board : Board
  pub execution : ℕ
  pub validation : ℕ

-- so many messages of which none was handed out
abbrev pub open_schedule : ℕ → Schedule
open_schedule n = record { board = open_board n; execution = 0; validation = 0 }

-- the present version of the message at i
abbrev pub present : Board → ℕ → Version
present b i = record { index = i; incarnation = (mark b i).incarnation }

-- Asked for a task where the cursors stand so, the answer is this, and the cursors then stand so.
pub data Chooses (b : Board) : ℕ → ℕ → Task → ℕ → ℕ → Type 0 where
  -- the validation cursor is behind: its message is to be validated, or it is passed over
  Validations : (e v : ℕ) → v < e → IsOpen b (present b v) → Chooses b e v (Validate (present b v)) e (v + 1)
  PassesValidation : (e v : ℕ) (answer : Task) (after_e after_v : ℕ) → v < e → ¬ IsOpen b (present b v) → Chooses b e (v + 1) answer after_e after_v → Chooses b e v answer after_e after_v
  -- else the message at the execution cursor is to be executed, or it is passed over
  Executes : (e v : ℕ) → e ≤ v → IsReady b e → Chooses b e v (Execute (present b e)) (e + 1) v
  PassesExecution : (e v : ℕ) (answer : Task) (after_e after_v : ℕ) → e ≤ v → e < length b.marks → ¬ IsReady b e → Chooses b (e + 1) v answer after_e after_v → Chooses b e v answer after_e after_v
  -- neither can be taken
  Nothing : (e v : ℕ) → e ≤ v → length b.marks ≤ e → Chooses b e v Idle e v

-- A task is asked for, and this is the answer.
abbrev pub Claims : Schedule → Task → Schedule → Type 0
-- all messages are committed
Claims old Done new = (old.board.committed ≡ length old.board.marks) × (new ≡ old)
-- the message is handed out, and the cursors have passed it
Claims old (Execute v) new =
    (old.board.committed ≢ length old.board.marks) × Chooses old.board old.execution old.validation (Execute v) new.execution new.validation
    × (new.board ≡ claimed old.board v.index)
Claims old (Validate v) new =
    (old.board.committed ≢ length old.board.marks) × Chooses old.board old.execution old.validation (Validate v) new.execution new.validation
    × (new.board ≡ old.board)
-- nothing can be taken, and the cursors are set back
Claims old Idle new =
    (old.board.committed ≢ length old.board.marks)
    × ((e v : ℕ) × Chooses old.board old.execution old.validation Idle e v) × (new ≡ old)

-- a claim may be answered so, whatever the cursors are, of messages that are not all committed
abbrev pub IsAllowed : Board → Task → Type 0
IsAllowed b (Execute v) = IsReady b v.index × (v.incarnation ≡ (mark b v.index).incarnation)
IsAllowed b (Validate v) = IsOpen b v
IsAllowed b Idle = Unit {0}
IsAllowed b Done = ⊥

-- the message at w waits for the one at `on`
abbrev pub IsWaitingFor : List MessageProgress → ℕ → ℕ → Type 0
IsWaitingFor marks on w = (slice_index_or marks w fresh_mark).status ≡ status.Waiting on

-- the cursor is lowered to the least message that waits for i; if none is below it, it stays
abbrev pub IsLoweredToWaiting : List MessageProgress → ℕ → ℕ → ℕ → Type 0
IsLoweredToWaiting marks i before after =
    (after ≤ before) × ((w : ℕ) → IsWaitingFor marks i w → after ≤ w) × ((after ≡ before) ⊎ IsWaitingFor marks i after)

-- a schedule is stored as its parts
abbrev pub schedule_code : Coded Board → Coded Schedule
schedule_code board =
    code_by (Board × (ℕ × ℕ)) (coded× board (coded× coded_ℕ coded_ℕ))
    (λ s. (s.board, (s.execution, s.validation))) (λ p. record { board = p.0; execution = p.1.0; validation = p.1.1 }) (λ _. refl)
