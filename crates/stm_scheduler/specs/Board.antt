-- Where each message stands, the floors, the epoch and the committed count. No entry, and no log.
use Rattle.std.specs.Prelude.{◌≡◌, ℕ, ◌+◌, ◌<◌, ◌≤◌, max, nat_eq, if◌then◌else◌, List, length, map, replicate, slice_index_or, slice_set, Option, Some, None, refl}
use Rattle.std.specs.Coded.{Coded, code_by, coded×, coded_list, coded_ℕ}
use Rattle.stm_memory.specs.declared.version.Version.{Version}
use Rattle.stm_scheduler.specs.declared.message_progress.MessageProgress.{MessageProgress}
use Rattle.stm_scheduler.specs.declared.status.Status.{Status}
use Rattle.stm_scheduler.specs.declared.status.Status.TheVariants as status

-- where each message stands; the floors; the epoch; how many messages are committed
pub record Board : Type 0 where
  pub marks : List MessageProgress
  pub floors : List ℕ
  pub epoch : ℕ
  pub committed : ℕ

-- a message of this status and incarnation, without stamp
abbrev pub unstamped : Status → ℕ → MessageProgress
unstamped is incarnation = record { status = is; incarnation = incarnation; stamp = None }

-- a message that nothing was done with yet
abbrev pub fresh_mark : MessageProgress
fresh_mark = unstamped status.Ready 0

-- where the message at i stands. No message is there: then it is as a fresh one, neither running nor executed
abbrev pub mark : Board → ℕ → MessageProgress
mark b i = slice_index_or b.marks i fresh_mark

-- the floor at t
abbrev pub floor : Board → ℕ → ℕ
floor b t = slice_index_or b.floors t 0

-- the board with the message at i standing so
abbrev pub with_mark : Board → ℕ → MessageProgress → Board
with_mark b i m = record b { marks = slice_set b.marks i m }

-- the opening board of so many messages
abbrev pub open_board : ℕ → Board
open_board n = record { marks = replicate n fresh_mark; floors = replicate (n + 1) 0; epoch = 1; committed = 0 }

-- it is executed, in this incarnation
abbrev pub IsExecutedAs : MessageProgress → ℕ → Type 0
IsExecutedAs m incarnation = (m.status ≡ status.Executed) × (m.incarnation ≡ incarnation)

-- a message is at i, and it is ready
abbrev pub IsReady : Board → ℕ → Type 0
IsReady b i = (i < length b.marks) × ((mark b i).status ≡ status.Ready)

-- the message at i has an execution that finished
abbrev pub IsExecuted : Board → ℕ → Type 0
IsExecuted b i = (mark b i).status ≡ status.Executed

-- the version was handed out and has neither finished nor been aborted
abbrev pub IsRunning : Board → Version → Type 0
IsRunning b v = ((mark b v.index).status ≡ status.Running) × ((mark b v.index).incarnation ≡ v.incarnation)

-- the version is executed and not committed
abbrev pub IsOpen : Board → Version → Type 0
IsOpen b v = IsExecutedAs (mark b v.index) v.incarnation × (b.committed ≤ v.index)

-- no floor up to j is above this epoch
abbrev pub IsFloored : Board → ℕ → ℕ → Type 0
IsFloored b j epoch = (t : ℕ) → t ≤ j → floor b t ≤ epoch

-- The message at j is executed, it has a stamp, and no floor up to j is above that.
abbrev pub IsFresh : Board → ℕ → Type 0
IsFresh b j = IsExecuted b j × (stamp : ℕ) × ((mark b j).stamp ≡ Some stamp) × IsFloored b j stamp

-- the message before i at `on` is not executed, so that i can wait for it
abbrev pub IsWaitedFor : Board → ℕ → ℕ → Type 0
IsWaitedFor b i on = (on < i) × ¬ IsExecuted b on

-- the message at i is handed out
abbrev pub claimed : Board → ℕ → Board
claimed b i = with_mark b i (record (mark b i) { status = status.Running })

-- the message at i aborts its incarnation, and is of this status
abbrev pub aborted_as : Board → ℕ → Status → Board
aborted_as b i is = with_mark b i (unstamped is ((mark b i).incarnation + 1))

-- the epoch rises, and the messages after i have to be validated in it
abbrev pub lowered : Board → ℕ → Board
lowered b i = record b { epoch = b.epoch + 1; floors = slice_set b.floors (i + 1) (b.epoch + 1) }

-- a message that waits for i is ready
abbrev pub woken_status : ℕ → Status → Status
woken_status i status.Ready = status.Ready
woken_status i status.Running = status.Running
woken_status i status.Executed = status.Executed
woken_status i (status.Waiting on) = if nat_eq on i then status.Ready else status.Waiting on

-- the same of where a message stands
abbrev pub woken : ℕ → MessageProgress → MessageProgress
woken i m = record { status = woken_status i m.status; incarnation = m.incarnation; stamp = m.stamp }

-- the message at i finished, and those that wait for it are ready
abbrev pub finished : Board → ℕ → Board
finished b i = record b { marks = map (woken i) (slice_set b.marks i (unstamped status.Executed (mark b i).incarnation)) }

-- the greater of the stamp there is and this epoch
abbrev pub stamped : Option ℕ → ℕ → Option ℕ
stamped None epoch = Some epoch
stamped (Some stamp) epoch = Some (max stamp epoch)

-- the message at i passed a validation that began at this epoch
abbrev pub passed : Board → ℕ → ℕ → Board
passed b i began = with_mark b i (record (mark b i) { stamp = stamped (mark b i).stamp began })

-- the execution of the message at i is aborted, and the messages after it have to be validated again
abbrev pub aborted : Board → ℕ → Board
aborted b i = lowered (aborted_as b i status.Ready) i

-- one more message is committed
abbrev pub committed_more : Board → Board
committed_more b = record b { committed = b.committed + 1 }

-- a board is stored as its parts
abbrev pub board_code : Coded MessageProgress → Coded Board
board_code coded_mark =
    code_by (List MessageProgress × (List ℕ × (ℕ × ℕ))) (coded× (coded_list coded_mark) (coded× (coded_list coded_ℕ) (coded× coded_ℕ coded_ℕ)))
    (λ b. (b.marks, (b.floors, (b.epoch, b.committed))))
    (λ p. record { marks = p.0; floors = p.1.0; epoch = p.1.1.0; committed = p.1.1.1 })
    (λ _. refl)
