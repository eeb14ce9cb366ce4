-- What the program says of the files that it left.
use Rattle.std.specs.Prelude.{◌≡◌, ◌≢◌, ◌⊎◌, ◌++◌, ℕ, false, true, List, Option, None, codes, length, option_map}
use Rattle.std.specs.Global.{Vec}
use Rattle.app_words.specs.declared.engine_choice.EngineChoice.{EngineChoice}
use Rattle.file_batch.specs.declared.body_count.BodyCount.{BodyCount}
use Rattle.file_batch.specs.declared.strictness.Strictness.{Strictness}
use Rattle.file_batch.specs.Words.{Failing, Holding, IsAsItWas}
use Rattle.app_words.specs.Asked.{Asked, Names, audit, audit_blocks, blocks, run, run_with_journal, serial}
use Rattle.app_commands.specs.Answered.{AreSparing, IsActed, Pages}
use Rattle.app_commands.specs.Fault.{text_of}
use Rattle.app_commands.specs.Printed.{PrintsLine, behind}
use Rattle.app_commands.specs.declared.fault.Fault.{Fault}
use Rattle.app_commands.specs.declared.fault.Fault.TheVariants.{OutOfMemory, Job}
use Rattle.app_jobs.specs.declared.job_fault.JobFault.TheVariants.{InUse}
use Rattle.app_runs.specs.Journaled.{IsDecidedWithJournal}
use Rattle.app_laws.specs.Faults.{IsOfNoFile}

-- What the program does for words: they are done or refused, with this status, and a file that is none of those that are written for what
-- they ask for stays as it was.
pub record Acts (known : Type 0) (old new : Holding) (devices : Failing) (words : List (List ℕ)) (before after : Pages) (status : ℕ) : Type 0 where
  pub acted : IsActed known old new devices words before after status
  pub others : (other : List ℕ) → AreSparing words other → IsAsItWas old new other

-- the second is the audit, without a journal, of what the first decides, by the same names
pub data IsAuditOf : Names → Asked → Asked → Type 0 where
  of_serial : (names : Names) (strictness : Strictness) → IsAuditOf names (serial names strictness) (audit names None)
  of_run : (names : Names) (workers : ℕ) (engine : EngineChoice) (strictness : Strictness) → IsAuditOf names (run names workers engine strictness) (audit names None)
  of_run_with_journal : (names : Names) (workers : ℕ) (journal : List ℕ) (strictness : Strictness)
      → IsAuditOf names (run_with_journal names workers journal strictness) (audit names None)
  of_blocks : (names : Names) (workers : ℕ) (engine : EngineChoice) (strictness : Strictness) → IsAuditOf names (blocks names workers engine strictness) (audit_blocks names)

-- this line is printed on standard output, nothing on standard error, and the status is this
pub record Reports (line : List ℕ) (code : ℕ) (old new : Pages) (status : ℕ) : Type 0 where
  pub out : PrintsLine old.out new.out line
  pub taken : new.is_lost ≡ false
  pub err : new.err ≡ old.err
  pub done : status ≡ code

-- standard output didn't take the report: standard error says so, and the status is 1
pub record LosesReport (old new : Pages) (status : ℕ) : Type 0 where
  pub lost : new.is_lost ≡ true
  pub err : PrintsLine old.err new.err (codes "output 1")
  pub failed : status ≡ 1

-- memory ran out, a call on a file failed, where it may, or another run has claimed a file, where one may have
abbrev pub IsFromOutside : Type 0 → Type 0 → Fault → Type 0
IsFromOutside may_fail in_use OutOfMemory = Unit {0}
IsFromOutside may_fail in_use (Job fault) = IsOfNoFile may_fail fault ⊎ ((fault ≡ InUse) × in_use)
IsFromOutside may_fail in_use _ = ⊥

-- such a fault is printed on standard error, behind which one more line may tell a person of it, and the status is 1
pub record FailsFromOutside (may_fail in_use : Type 0) (old new : Pages) (status : ℕ) : Type 0 where
  pub fault : Fault
  pub is : IsFromOutside may_fail in_use fault
  pub told : Option (Vec ℕ)
  pub out : new.out ≡ old.out
  pub err : PrintsLine old.err new.err (text_of fault ++ behind (option_map (λ line. line.items) told))
  pub failed : status ≡ 1

-- Nothing is reported: standard output didn't take it, or a fault came from outside.
abbrev pub ReportsNothing : Type 0 → Type 0 → Pages → Pages → ℕ → Type 0
ReportsNothing may_fail in_use old new status = LosesReport old new status ⊎ FailsFromOutside may_fail in_use old new status

-- `same` is reported, or nothing is: no difference is found, and no fault of a file.
abbrev pub SaysSame : Type 0 → Type 0 → Pages → Pages → ℕ → Type 0
SaysSame may_fail in_use old new status = Reports (codes "same") 0 old new status ⊎ ReportsNothing may_fail in_use old new status

-- the run kept this journal, and its core stopped before it had committed all messages, as no incarnation or epoch was left
pub record HasStopped (known : Type 0) (old new : Holding) (names : Names) (journal : List ℕ) : Type 0 where
  pub count : BodyCount
  pub run : IsDecidedWithJournal known old new names journal count
  pub fewer : run.committed ≢ length run.frames

-- The same by the journal of a run, but where its core has stopped it is reported that the count differs.
abbrev pub SaysSameByJournal : Type 0 → Type 0 → Type 0 → Pages → Pages → ℕ → Type 0
SaysSameByJournal stopped may_fail in_use old new status =
    SaysSame may_fail in_use old new status ⊎ (Reports (codes "count differs") 3 old new status × stopped)
