-- Where a message stands, and what moves it.
use Rattle.std.specs.Prelude.{◌≡◌, ◌⊎◌, ℕ, ◌+◌, Option, Some, None}
use Rattle.split_state.specs.declared.attempt.Attempt.{Attempt}
use Rattle.split_state.specs.declared.message_stage.MessageStage.{MessageStage}
use Rattle.split_state.specs.declared.message_stage.MessageStage.TheVariants.{Ready, Running, Executed, Committed}

-- where a message stands, in which incarnation; its last execution, and the one that was aborted
pub record MessageSlot : Type 0 where
  pub stage : MessageStage
  pub incarnation : ℕ
  pub attempt : Option Attempt
  pub former : Option Attempt

-- a message that was never executed
abbrev pub IsFresh : MessageSlot → Type 0
IsFresh s = (s.stage ≡ Ready) × (s.incarnation ≡ 0) × (s.attempt ≡ None) × (s.former ≡ None)

-- a worker executes it
abbrev pub taken : MessageSlot → MessageSlot
taken s = record { stage = Running; incarnation = s.incarnation; attempt = s.attempt; former = s.former }

-- it was executed so
abbrev pub executed : MessageSlot → Attempt → MessageSlot
executed s attempt = record { stage = Executed; incarnation = s.incarnation; attempt = Some attempt; former = None }

-- the former execution, once this one is aborted
abbrev pub former_after : Option Attempt → Option Attempt → Option Attempt
former_after (Some attempt) former = Some attempt
former_after None former = former

-- it is to be executed again, in its next incarnation
abbrev pub aborted : MessageSlot → MessageSlot
aborted s = record { stage = Ready; incarnation = s.incarnation + 1; attempt = None; former = former_after s.attempt s.former }

-- it is committed
abbrev pub committed : MessageSlot → MessageSlot
committed s = record { stage = Committed; incarnation = s.incarnation; attempt = None; former = s.former }

-- it runs, or was executed, so it may be aborted
abbrev pub IsInHand : MessageSlot → Type 0
IsInHand s = (s.stage ≡ Running) ⊎ (s.stage ≡ Executed)
