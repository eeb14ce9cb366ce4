-- What the decision table gives a message on the rows that were logged for it.
use Rattle.std.specs.Prelude.{◌≡◌, ◌≢◌, ℕ, ◌+◌, List, [], ◌∷◌, ◌++◌, length, Some, None}
use Rattle.std.specs.FinMap as finite
use Rattle.std.specs.List.{AllByRecursion}
use Rattle.std.specs.Option.{option_flatten}
use Rattle.issuer_words.specs.Words.{Frame, Lookup, RowKey, Rows, decision}
use Rattle.stm_core_laws.specs.Words.{IsAt, Log, Play, State, logged_in, slot}
use Rattle.stm_core_laws.specs.declared.limits.Limits.{Limits}
use Rattle.stm_memory.specs.declared.version.Version.{Version}
use Rattle.stm_journal_text.specs.declared.entry.Entry.{Entry}
use Rattle.stm_journal_text.specs.declared.event.Event.{Event}
use Rattle.stm_journal_text.specs.declared.event.Event.TheVariants.{Finish}
use Rattle.stm_scheduler.specs.Board.{IsRunning}
use Rattle.stm_journal_text.specs.Plays.{Plays}

-- the rows that were logged; any other is absent
abbrev pub log_rows : Log → Lookup
log_rows log row = option_flatten (logged_in log row)

-- the same as a book: where a row was logged twice, the first counts
abbrev pub logged_book : Log → Rows
logged_book [] = finite.empty
logged_book (read ∷ reads) =
    elim read.1.value [ None ↦ finite.remove (logged_book reads) read.0 | Some value ↦ finite.insert (logged_book reads) read.0 value ]

-- the row was logged
abbrev pub IsLogged : Log → RowKey → Type 0
IsLogged log row = logged_in log row ≢ None

-- on the logged rows alone the table needs a row that wasn't logged
abbrev pub IsUndecided : Log → Frame → Type 0
IsUndecided log frame = ¬ AllByRecursion (IsLogged log) (decision (log_rows log) frame).needs

-- the version is running, and the table needs for its message a row that it didn't log
pub record IsUnlogged (s : State) (v : Version) : Type 0 where
  pub running : IsRunning s.board v
  pub frame : Frame
  pub at : IsAt s.frames v.index frame
  pub undecided : IsUndecided (slot s v.index).log frame

-- the event finishes such a version
abbrev pub IsUnloggedEvent : State → Event → Type 0
IsUnloggedEvent s (Finish v) = IsUnlogged s v
IsUnloggedEvent s event = ⊥

-- Entry n, counted from 1, is the first that finishes a running version for which the table needs a row that wasn't logged: those
-- before it play.
pub record IsFirstUnlogged (start : Play) (entries : List Entry) (n : ℕ) : Type 0 where
  pub before : List Entry
  pub entry : Entry
  pub after : List Entry
  pub are : entries ≡ before ++ entry ∷ after
  pub number : n ≡ length before + 1
  pub core : Play
  pub plays : Plays start before core
  pub unlogged : IsUnloggedEvent core.state entry.event

-- no limit but that of the numbers: incarnations of 32 bits, epochs of 64
abbrev pub greatest : Limits
greatest = record { incarnation = 4294967295; epoch = 18446744073709551615 }
