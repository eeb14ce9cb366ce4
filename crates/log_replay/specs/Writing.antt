-- What a function that writes replies does to their file.
use Rattle.std.specs.Prelude.{Result, IfErr}
use Rattle.log_replay.specs.declared.replay_fault.ReplayFault.{ReplayFault}
use Rattle.log_replay.specs.declared.replay_fault.ReplayFault.TheVariants.{Unwritable, OutOfMemory}

-- the replies are not written, which may be, or memory ran out
abbrev pub IsWritingFault : Type 0 → ReplayFault → Type 0
IsWritingFault may_fail Unwritable = may_fail
IsWritingFault may_fail OutOfMemory = Unit {0}
IsWritingFault may_fail _ = ⊥

-- it fails only where a call on the file may fail, or where memory runs out; and what was known of the file is known still
module _ {S : Type 0} (is_known : S → Type 0) (may_fail : S → Type 0) where
  pub record Writes {X : Type 0} (old new : S) (result : Result X ReplayFault) : Type 0 where
    pub fault : IfErr result (IsWritingFault (may_fail old))
    pub may : may_fail new → may_fail old
    pub known : is_known old → is_known new

  -- what may fail and is known stays so
  pub record Keeps (old new : S) : Type 0 where
    pub may : may_fail new → may_fail old
    pub known : is_known old → is_known new
