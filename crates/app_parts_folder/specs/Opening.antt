-- Files of a folder that are opened.
use Rattle.std.specs.Prelude.{◌≡◌, ◌≢◌, ◌⊎◌, ◌++◌, ℕ, List}
use Rattle.sha2.specs.Sha256.{sha256}
use Rattle.file_batch.specs.Words.{Failing, Holding}
use Rattle.app_jobs.specs.declared.job_fault.JobFault.{JobFault}
use Rattle.app_jobs.specs.declared.job_fault.JobFault.TheVariants.{OutOfMemory}
use Rattle.app_parts_folder.specs.PlanTexts.{IsPlan, decided_head, decided_text, plan_of, plan_text}
use Rattle.app_parts_folder.specs.Faults.{HasNoPlan}
use Rattle.app_parts_folder.specs.Names.{plan_name}
use Rattle.app_parts_folder.specs.Texts.{IsHeld, IsReadingFault}
use Rattle.app_parts_folder.specs.declared.part_fault.PartFault.{PartFault}
use Rattle.app_parts_folder.specs.declared.part_fault.PartFault.TheVariants as part
use Rattle.app_parts_folder.specs.declared.parts_fault.PartsFault.{PartsFault}
use Rattle.app_parts_folder.specs.declared.parts_fault.PartsFault.TheVariants as fault
use Rattle.app_parts_folder.specs.declared.plan_opening.OpenPlan.{OpenPlan}

-- the plan of the folder, and the digest of its bytes
pub record IsOpenPlan (known : Type 0) (holds : Holding) (folder : List ℕ) (opened : OpenPlan) : Type 0 where
  pub is_plan : IsPlan (plan_of opened.plan)
  pub plan_held : IsHeld known holds (plan_name folder) (plan_text (plan_of opened.plan))
  pub digest : opened.digest ≡ sha256 (plan_text (plan_of opened.plan))

-- why the plan isn't opened
abbrev pub IsPlanFault : Holding → Failing → List ℕ → PartsFault → Type 0
IsPlanFault holds failing folder (fault.Job job) = IsReadingFault holds failing (plan_name folder) job
IsPlanFault holds failing folder fault.NoPlan = HasNoPlan holds folder
IsPlanFault holds failing folder _ = ⊥

-- memory ran out
abbrev pub IsNoMemory : JobFault → Type 0
IsNoMemory OutOfMemory = Unit {0}
IsNoMemory _ = ⊥

-- Why a part's file of this name isn't opened: it isn't read, or memory ran out.
abbrev pub IsPartFileFault : Holding → Failing → List ℕ → ℕ → PartsFault → Type 0
IsPartFileFault holds failing name number (fault.Job job) = IsNoMemory job
IsPartFileFault holds failing name number (fault.Part k part.Unreadable) = (k ≡ number) × ((bytes : List ℕ) → holds name bytes → failing.reading name)
IsPartFileFault holds failing name number _ = ⊥

-- Why it isn't opened where it is to have this digest: so, or another digest, which is told by this fault.
abbrev pub IsPlannedFileFault : Holding → Failing → List ℕ → List ℕ → ℕ → PartFault → PartsFault → Type 0
IsPlannedFileFault holds failing name digest number other told =
    IsPartFileFault holds failing name number told
    ⊎ ((told ≡ fault.Part number other) × ((bytes : List ℕ) → holds name bytes → sha256 bytes ≢ digest))

-- why these bytes don't say that the part is decided so
abbrev pub IsDecidedFault : ℕ → List ℕ → List ℕ → List ℕ → List ℕ → PartsFault → Type 0
IsDecidedFault number plan bytes replies book (fault.Job job) = IsNoMemory job
IsDecidedFault number plan bytes replies book (fault.Part k part.OtherPlan) =
    (k ≡ number) × ((behind : List ℕ) → bytes ≢ decided_head number plan ++ behind)
IsDecidedFault number plan bytes replies book (fault.Part k part.OtherFiles) =
    (k ≡ number) × (bytes ≢ decided_text number plan (sha256 replies) (sha256 book))
IsDecidedFault number plan bytes replies book _ = ⊥
