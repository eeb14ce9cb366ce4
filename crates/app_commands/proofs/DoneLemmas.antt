-- From what is asked for to what the words ask for.
use Rattle.std.proofs.Common.{◌≡◌, ℕ, List, Option, Some, None, Result, Ok, Err, MatchResult, OnOk, inl, inr, refl}
use Rattle.file_batch.specs.declared.strictness.Strictness.{Strictness}
use Rattle.file_batch.specs.declared.strictness.Strictness.TheVariants.{Lenient}
use Rattle.std.specs.Global.{Vec}
use Rattle.file_batch.specs.Words.{AreAsTheyWere, BatchFault, Failing}
use Rattle.app_runs.specs.Words.{AreBlocksKept, Holding, IsBlocksFault, JobFault}
use Rattle.app_words.specs.declared.engine_choice.EngineChoice.{EngineChoice}
use Rattle.app_jobs.specs.declared.job_fault.JobFault.TheVariants.{Batch}
use Rattle.app_words.specs.Asked.{Asked, Names, blocks}
use Rattle.app_words.specs.Arguments.{Asks, IsRead}
use Rattle.app_words.specs.declared.line_fault.LineFault.{LineFault}
use Rattle.app_words.specs.declared.line_fault.LineFault.TheVariants as line
use Rattle.app_commands.specs.Answered.{IsAskedFor, IsClaimFault, IsDoneAs, IsFaultIn, IsFaultOf, IsOneInUse, IsRefusalIn, IsRefusalOf, IsTold, IsToldFor}
use Rattle.app_commands.specs.Apart.{AreApart, IsApartFault, names_apart}
use Rattle.app_jobs.proofs.AnsweredFiles.{untouched}
use Rattle.app_commands.specs.Fault.{fault_and_kept, fault_of_line}
use Rattle.app_commands.specs.declared.fault.Fault.{Fault}
use Rattle.app_commands.specs.declared.fault.Fault.TheVariants.{Usage, OutOfMemory, Job, Halted}
use Rattle.app_commands.specs.declared.refusal.Refusal.{Refusal}
use Rattle.app_commands.specs.declared.report.Report.{Report}
use Rattle.std.specs.Prelude.{IfSome}

-- a fault of blocks, with those that are kept or with none
pub halted : (known : Type 0) (old new : Holding) (devices : Failing) (names : Names) (workers : ℕ) (engine : EngineChoice) (strictness : Strictness) (fault : JobFault) (kept : Option ℕ)
    → ((count : ℕ) → kept ≡ Some count → (strictness ≡ Lenient) × (why : BatchFault) × (fault ≡ Batch why) × AreBlocksKept known old new names (devices.writing names.replies) why count)
    → (kept ≡ None → AreAsTheyWere old new) → IsBlocksFault strictness old devices names fault
    → IsFaultIn known old new devices (blocks names workers engine strictness) (fault_and_kept fault kept)
halted known old new devices names workers engine strictness fault (Some count) some none why = (some count refl, why)
halted known old new devices names workers engine strictness fault None some none why = (none refl, inl why)

-- a fault of words
pub of_line : (known : Type 0) (old : Holding) (devices : Failing) (words : List (List ℕ)) (fault : LineFault) → IsRead words (Err fault)
    → IsFaultOf known old old devices words (fault_of_line fault)
of_line known old devices words (line.Usage text) h = inl (untouched old, h)
of_line known old devices words line.OutOfMemory h = inl (untouched old, tt)

-- two names of one file
pub of_names : (known : Type 0) (old : Holding) (devices : Failing) (what : Asked) (fault : Fault) → IsApartFault known (names_apart what) fault
    → IsFaultIn known old old devices what fault
of_names known old devices what (Usage text) h = (untouched old, h)
of_names known old devices what OutOfMemory h = untouched old
of_names known old devices what (Job fault) h = absurd h
of_names known old devices what (Halted fault kept) h = absurd h

-- why files are not claimed may be that any of several is in use
pub claiming_more : (in_use others : Type 0) (fault : Fault) → (in_use → others) → IsClaimFault in_use fault → IsClaimFault others fault
claiming_more in_use others OutOfMemory more h = tt
claiming_more in_use others (Job fault) more (inl h) = inl (h.0, more h.1)
claiming_more in_use others (Job fault) more (inr h) = inr h
claiming_more in_use others _ more h = absurd h

-- a file that isn't claimed
pub of_claim : (known : Type 0) (old : Holding) (devices : Failing) (what : Asked) (fault : Fault) → IsClaimFault (IsOneInUse devices.in_use what) fault
    → IsFaultIn known old old devices what fault
of_claim known old devices what (Usage text) h = absurd h
of_claim known old devices what OutOfMemory h = untouched old
of_claim known old devices what (Job fault) h = (untouched old, inr h)
of_claim known old devices what (Halted fault kept) h = absurd h

-- a fault behind which nothing is told
pub refused_line : (known : Type 0) (old : Holding) (devices : Failing) (words : List (List ℕ)) (line : LineFault) (refusal : Refusal) → refusal.fault ≡ fault_of_line line
    → refusal.words ≡ None → IsRead words (Err line) → IsRefusalOf known old old devices words refusal
refused_line known old devices words line refusal same none h = (rw same (of_line known old devices words line h), rw none tt)

pub refused_names : (known : Type 0) (old : Holding) (devices : Failing) (what : Asked) (fault : Fault) (refusal : Refusal) → refusal.fault ≡ fault → refusal.words ≡ None
    → IsApartFault known (names_apart what) fault → IsRefusalIn known old old devices what refusal
refused_names known old devices what fault refusal same none h = (rw same (of_names known old devices what fault h), rw none tt)

-- what is told of what is asked for is told of what the words ask for
told_for : (holds : Holding) (words : List (List ℕ)) (what : Asked) (fault : Fault) (told : Option (Vec ℕ)) → Asks words what
    → IfSome told (λ line. IsTold holds what fault line.items) → IfSome told (λ line. IsToldFor holds words fault line.items)
told_for holds words what fault None asks h = tt
told_for holds words what fault (Some line) asks h = (what, asks, h)

-- what is done of what the words ask for
pub asked_for : (known : Type 0) (old new : Holding) (devices : Failing) (words : List (List ℕ)) (what : Asked) (result : Result Report Refusal) → Asks words what
    → OnOk result (known → AreApart (names_apart what))
    → MatchResult result (IsDoneAs known old new what) (IsRefusalIn known old new devices what)
    → MatchResult result (IsAskedFor known old new words) (IsRefusalOf known old new devices words)
asked_for known old new devices words what (Ok told) asks apart h = (what, asks, apart, h)
asked_for known old new devices words what (Err refusal) asks apart h =
    (inr (what, asks, h.0), told_for new words what refusal.fault refusal.words asks h.1)
