-- What it comes to that a log is to be decided again.
use Rattle.std.specs.Prelude.{◌≡◌, ◌≢◌, ◌⊎◌, ℕ, List, Result, IfOk, IfErr, OnErr}
use Rattle.app_jobs.specs.Decided.{Holding}
use Rattle.file_batch.specs.declared.body_count.BodyCount.{BodyCount}
use Rattle.file_batch.specs.Words.{AreAsTheyWere, Failing, IsAsItWas, Names}
use Rattle.log_commands.specs.CommandFault.{status_of}
use Rattle.log_commands.specs.Faults.{IsReplayRefusal}
use Rattle.log_commands.specs.Replayed.{IsReplayed}
use Rattle.log_commands.specs.declared.command_fault.CommandFault.{CommandFault}
use Rattle.log_commands.specs.declared.log_replay_files.ReplayedFiles.{ReplayedFiles}

-- over files, and logs by their names
module _ {F : Type 0} (is_known : F → Type 0) (holds : F → Holding) (failing : F → Failing) (held : Holding) (reading in_use : List ℕ → Type 0) where
  -- the log is decided again, and the files hold what that comes to; else there is a reason, and all files are as they were
  pub record Replays (old new : F) (names : Names) (result : Result ReplayedFiles CommandFault) : Type 0 where
    pub replayed : IfOk result (λ files. IsReplayed (is_known old) (holds old) (holds new) held names files.count)
    pub fault : IfErr result (IsReplayRefusal held reading in_use (is_known old) (holds old) (failing old) names)
    pub kept : OnErr result (AreAsTheyWere (holds old) (holds new))
    pub others : (other : List ℕ) → other ≢ names.replies → other ≢ names.new_book → IsAsItWas (holds old) (holds new) other
    pub known : is_known old → is_known new

  -- The exit status says it: 0 where the files hold what the log comes to; else that of the reason, and all files are as they were.
  abbrev pub Ends : F → F → Names → ℕ → Type 0
  Ends old new names status =
      ((status ≡ 0) × (count : BodyCount) × IsReplayed (is_known old) (holds old) (holds new) held names count)
      ⊎ ((fault : CommandFault) × (status ≡ status_of fault) × IsReplayRefusal held reading in_use (is_known old) (holds old) (failing old) names fault
      × AreAsTheyWere (holds old) (holds new))
