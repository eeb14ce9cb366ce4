-- A core with its two cursors, by which it chooses what is claimed next (Block-STM: execution_idx, validation_idx).
use Rattle.std.specs.Prelude.{◌≡◌, ℕ, ◌+◌, min, nat_lt, List, false, Some, Ok, refl}
use Rattle.std.specs.Coded.{Coded, code_by, coded×, coded_ℕ}
use Rattle.issuer_words.specs.Words.{Frame, Rows}
use Rattle.stm_scheduler.specs.Words.{Claims, IsLoweredToWaiting, IsWaitedFor, Schedule}
use Rattle.stm_memory.specs.Entries.{IsNewLocation}
use Rattle.stm_core_laws.specs.Run.{Call, Claim, Block, Finish, End, Step}
use Rattle.stm_core_laws.specs.State.{State, validation_of, start}
use Rattle.stm_core_laws.specs.declared.validation.Validation.{Validation}
use Rattle.stm_core_laws.specs.declared.limits.Limits.{Limits}

-- a state, and where the cursors stand
pub record Play : Type 0 where
  pub state : State
  pub execution : ℕ
  pub validation : ℕ

-- the part of it that the scheduler holds
abbrev pub schedule : Play → Schedule
schedule p = record { board = p.state.board; execution = p.execution; validation = p.validation }

-- the cursors stay
abbrev pub StandStill : Play → Play → Type 0
StandStill old new = (new.execution ≡ old.execution) × (new.validation ≡ old.validation)

-- where the cursors stand after a call that is answered so
abbrev pub MoveCursors : Play → Call → Play → Type 0
-- they choose what is claimed
MoveCursors old (Claim task) new = Claims (schedule old) task (schedule new)
-- a message that is aborted and doesn't wait can be claimed again
MoveCursors old (Block v on (Ok _)) new =
    (IsWaitedFor old.state.board v.index on → new.execution ≡ old.execution)
    × (¬ IsWaitedFor old.state.board v.index on → new.execution ≡ min old.execution v.index)
    × (new.validation ≡ old.validation)
-- those that waited can be claimed again. With a new location the messages from this one on are validated again; without one this version
-- is handed out, if the validation cursor is past it
MoveCursors old (Finish v x (Ok handed)) new =
    IsLoweredToWaiting old.state.board.marks v.index old.execution new.execution
    × (IsNewLocation old.state.entries v.index x.writes → (handed ≡ false) × (new.validation ≡ min old.validation v.index))
    × (¬ IsNewLocation old.state.entries v.index x.writes → (handed ≡ nat_lt v.index old.validation) × (new.validation ≡ old.validation))
-- a message whose validation failed is executed again, and those after it are validated again
MoveCursors old (End seat (Ok false)) new =
    (c : Validation) × (validation_of old.state seat ≡ Some c)
    × (new.execution ≡ min old.execution c.version.index) × (new.validation ≡ min old.validation (c.version.index + 1))
-- no other call moves them
MoveCursors old call new = StandStill old new

-- From old, this core answers the call so, and new is the core after it.
abbrev pub PlayStep : Play → Call → Play → Type 0
PlayStep old call new = Step old.state call new.state × MoveCursors old call new

-- how a core is stored
abbrev pub play_code : Coded State → Coded Play
play_code state =
    code_by (State × (ℕ × ℕ)) (coded× state (coded× coded_ℕ coded_ℕ))
    (λ p. (p.state, (p.execution, p.validation))) (λ q. record { state = q.0; execution = q.1.0; validation = q.1.1 }) (λ _. refl)

-- a core in its opening state
abbrev pub opening_play : Rows → List Frame → Limits → Play
opening_play opening frames limits = record { state = start opening frames limits; execution = 0; validation = 0 }
