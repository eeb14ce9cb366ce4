-- Why a log is not decided again.
use Rattle.std.specs.Prelude.{◌<◌, ◌⊎◌, ℕ, List, Err}
use Rattle.file_laws.specs.LogReading.{IsReading}
use Rattle.file_laws.specs.declared.log_fault.LogFault.{LogFault}
use Rattle.file_laws.specs.declared.log_fault.LogFault.TheVariants as log
use Rattle.log_replay.specs.Logged.{IsLogOfSize}
use Rattle.log_replay.specs.declared.replay_fault.ReplayFault.{ReplayFault}
use Rattle.log_replay.specs.declared.replay_fault.ReplayFault.TheVariants.{Log, TooMany, Unwritable, OutOfMemory}

-- The bytes, where they are known, have this fault as the log of the book that has this digest; or a call failed, which may be; or memory
-- ran out. That a host has it is none.
abbrev pub IsReadingFault : Type 0 → Type 0 → List ℕ → List ℕ → LogFault → Type 0
IsReadingFault known may_fail digest bytes log.Failed = may_fail
IsReadingFault known may_fail digest bytes log.OutOfMemory = Unit {0}
IsReadingFault known may_fail digest bytes log.InUse = ⊥
IsReadingFault known may_fail digest bytes fault = known → IsReading digest bytes (Err fault)

-- Why a log is not measured: it isn't read; or it has more than 65,536,000 messages, whose replies no file of blocks can have; or memory
-- ran out.
abbrev pub IsMeasuringFault : Type 0 → Type 0 → List ℕ → List ℕ → ReplayFault → Type 0
IsMeasuringFault known may_fail digest bytes (Log fault) = IsReadingFault known may_fail digest bytes fault
IsMeasuringFault known may_fail digest bytes TooMany = known → (count : ℕ) × (torn : ℕ) × IsLogOfSize digest bytes count torn × (65536000 < count)
IsMeasuringFault known may_fail digest bytes Unwritable = ⊥
IsMeasuringFault known may_fail digest bytes OutOfMemory = Unit {0}

-- Why a log of this size is not decided again: it isn't read, or has another size; or its replies are not written, which may be; or memory
-- ran out.
abbrev pub IsReplayFault : Type 0 → Type 0 → List ℕ → List ℕ → Type 0 → Type 0 → ReplayFault → Type 0
IsReplayFault known may_fail digest bytes other may_not_write (Log log.Failed) = may_fail ⊎ other
IsReplayFault known may_fail digest bytes other may_not_write (Log fault) = IsReadingFault known may_fail digest bytes fault
IsReplayFault known may_fail digest bytes other may_not_write TooMany = ⊥
IsReplayFault known may_fail digest bytes other may_not_write Unwritable = may_not_write
IsReplayFault known may_fail digest bytes other may_not_write OutOfMemory = Unit {0}
