-- Faults of the parts of an audit of a log, and the sizes of blocks.
use Rattle.std.proofs.Common.{◌≡◌, ◌≤◌, ℕ, List, [], ◌∷◌, length, map, refl, arith}
use Rattle.std.specs.Global.{Vec}
use Rattle.std.specs.List.{All, AllByRecursion}
use Rattle.std.proofs.lemmas.List.Elements.{All-from_recursion}
use Rattle.app_jobs.specs.Decided.{Holding}
use Rattle.app_jobs.specs.declared.job_fault.JobFault.TheVariants as job
use Rattle.file_laws.specs.declared.batch_fault.BatchFault.TheVariants as batch
use Rattle.file_devices.specs.BatchNames.{Names}
use Rattle.issuer_words.specs.Words.{Frame, Rows}
use Rattle.log_file.specs.declared.open_fault.OpenFault.{OpenFault}
use Rattle.log_file.specs.declared.open_fault.OpenFault.TheVariants as opening
use Rattle.file_laws.specs.declared.log_fault.LogFault.TheVariants as log
use Rattle.log_replay.specs.Blocks.{AreCut}
use Rattle.log_commands.specs.Audited.{IsLogUnread, IsUnread}
use Rattle.log_commands.specs.CommandFault.{fault_of_open}
use Rattle.log_commands.specs.declared.command_fault.CommandFault.{CommandFault}
use Rattle.log_commands.specs.declared.command_fault.CommandFault.TheVariants.{Job, Log}

few_in_each : (blocks : List (Vec Frame)) → AreCut (map (λ (block : Vec Frame). block.items) blocks) → AllByRecursion (λ (block : Vec Frame). length block.items ≤ 65536) blocks
few_in_each [] cut = tt
few_in_each (block ∷ []) cut = (cut.1, tt)
few_in_each (block ∷ next ∷ blocks) cut = (omega (arith, cut.0), few_in_each (next ∷ blocks) cut.1)

-- no block has more than 65,536 messages
pub few_each : (blocks : List (Vec Frame)) → AreCut (map (λ (block : Vec Frame). block.items) blocks) → All (λ (block : Vec Frame). length block.items ≤ 65536) blocks
few_each blocks cut = All-from_recursion (λ (block : Vec Frame). length block.items ≤ 65536) blocks (few_in_each blocks cut)

module _ (held : Holding) (reading in_use : List ℕ → Type 0) where
  -- a log that isn't opened
  pub not_opened : (names : Names) (rows : Rows) (e : OpenFault) → (e ≡ opening.InUse → in_use names.batch) → (e ≡ opening.Refused → (bytes : List ℕ) → ¬ held names.batch bytes)
      → IsLogUnread held reading in_use names rows (fault_of_open e)
  not_opened names rows opening.InUse used absent = used refl
  not_opened names rows opening.Refused used absent = λ bytes h. absurd (absent refl bytes h)
  not_opened names rows opening.OutOfMemory used absent = tt

  -- a log that is open isn't read
  pub not_read : (names : Names) (rows : Rows) (known may_fail : Type 0) (own : List ℕ) (e : CommandFault) → ((bytes : List ℕ) → held names.batch bytes → known × (own ≡ bytes))
      → (may_fail → reading names.batch) → IsUnread known may_fail own rows e → IsLogUnread held reading in_use names rows e
  not_read names rows known may_fail own (Log log.Failed) has may is = λ bytes h. may (is (has bytes h).0)
  not_read names rows known may_fail own (Log log.OutOfMemory) has may is = tt
  not_read names rows known may_fail own (Log log.InUse) has may is = absurd is
  not_read names rows known may_fail own (Log log.NoLog) has may is = λ bytes h. rw (has bytes h).1 at (is (has bytes h).0)
  not_read names rows known may_fail own (Log log.Version) has may is = λ bytes h. rw (has bytes h).1 at (is (has bytes h).0)
  not_read names rows known may_fail own (Log log.OtherBook) has may is = λ bytes h. rw (has bytes h).1 at (is (has bytes h).0)
  not_read names rows known may_fail own (Log (log.Broken n)) has may is = λ bytes h. rw (has bytes h).1 at (is (has bytes h).0)
  not_read names rows known may_fail own (Job (job.Batch batch.Blocks)) has may is = λ bytes h. rw (has bytes h).1 at (is (has bytes h).0)
  not_read names rows known may_fail own (Job job.OutOfMemory) has may is = tt
  not_read names rows known may_fail own _ has may is = absurd is
