-- What the program does for its words.
use Rattle.std.specs.Prelude.{◌≡◌, ◌≢◌, ◌⊎◌, ℕ, Bool, true, false, List, [], ◌∷◌, ◌++◌, length, MatchResult, Option, Result, Some, None, IfSome, codes, option_map, string_bytes}
use Rattle.std.specs.Global.{Vec}
use Rattle.app_runs.specs.Answers.{IsAnswerInDigits}
use Rattle.app_runs.specs.SampleBook.{sample_rows}
use Rattle.app_runs.specs.Words.{AreBlocksAudited, AreBlocksDecided, AreBlocksKept, Holding, IsAudited, IsAuditedWithJournal, IsAuditingFault, IsBlockAuditingFault, IsBlocksFault, IsDecided, IsDecidingFault, IsJournalAuditingFault, JobFault}
use Rattle.app_audit.specs.Texts.{audit_text, block_audit_text}
use Rattle.app_audit.specs.declared.audited.Audit.{Audit}
use Rattle.app_audit.specs.declared.block_audit.BlockAudit.{BlockAudit}
use Rattle.app_audit.specs.declared.audited.Audit.TheVariants as found
use Rattle.app_audit.specs.declared.block_audit.BlockAudit.TheVariants as block_found
use Rattle.file_batch.specs.Counting.{Admits}
use Rattle.file_batch.specs.declared.strictness.Strictness.TheVariants.{Lenient}
use Rattle.file_batch.specs.Words.{AreAsTheyWere, BatchFault, Failing, IsAsItWas}
use Rattle.app_commands.specs.Apart.{AreApart, HasOneFile, names_apart}
use Rattle.app_runs.specs.Journaled.{IsDecidedWithJournal, IsDecidingFaultWithJournal}
use Rattle.app_messages.specs.Packed.{ArePacked, ArePackedInBlocks, IsBlockPackingFault, IsPackingFault}
use Rattle.app_words.specs.declared.form.Form.TheVariants.{Lines}
use Rattle.app_messages.specs.Shown.{IsShowFault, IsShown}
use Rattle.app_jobs.specs.declared.job_fault.JobFault.TheVariants.{Batch, InUse}
use Rattle.app_jobs.specs.declared.job_fault.JobFault.TheVariants as job
use Rattle.app_words.specs.Asked.{Asked, Names, help, version, one, serial, run, run_with_journal, blocks, audit, audit_blocks, show, pack, pack_blocks}
use Rattle.app_words.specs.Arguments.{Asks, IsUsageFault}
use Rattle.app_commands.specs.Fault.{status_of, text_of}
use Rattle.app_commands.specs.Printed.{Prints, PrintsLine, behind, decided, decided_in_blocks, numbered, packed_in_blocks}
use Rattle.app_commands.specs.declared.fault.Fault.{Fault}
use Rattle.app_commands.specs.declared.fault.Fault.TheVariants.{Usage, OutOfMemory, Job, Halted}
use Rattle.app_reasons.specs.Tells.{Tells}
use Rattle.app_reasons.specs.Words.{IsLineOf}
use Rattle.app_commands.specs.declared.refusal.Refusal.{Refusal}
use Rattle.app_commands.specs.declared.report.Report.{Report}
use Rattle.app_commands.specs.declared.report.Report.TheVariants as report

-- what is printed of what was done
abbrev pub text_of_report : Report → List ℕ
text_of_report (report.Help text) = string_bytes text ++ 10 ∷ []
text_of_report report.Version = codes "switch 0.1.0" ++ 10 ∷ []
text_of_report (report.Answer text) = string_bytes text ++ 10 ∷ []
text_of_report (report.Decided count) = decided count ++ 10 ∷ []
text_of_report (report.DecidedBlocks count) = decided_in_blocks count ++ 10 ∷ []
text_of_report (report.Packed count) = numbered (codes "packed") count ++ 10 ∷ []
text_of_report (report.PackedBlocks bodies count) = packed_in_blocks bodies count ++ 10 ∷ []
text_of_report (report.Audited found text) = text.items ++ 10 ∷ []
text_of_report (report.AuditedBlocks found text) = text.items ++ 10 ∷ []
text_of_report (report.Lines text) = text.items

abbrev pub status_of_audit : Audit → ℕ
status_of_audit found.Same = 0
status_of_audit found.CountDiffers = 3
status_of_audit (found.ReplyDiffers place) = 3
status_of_audit (found.BookDiffers key) = 3

abbrev pub status_of_block_audit : BlockAudit → ℕ
status_of_block_audit block_found.Same = 0
status_of_block_audit block_found.CountDiffers = 3
status_of_block_audit (block_found.ReplyDiffers block index) = 3
status_of_block_audit (block_found.BookDiffers key) = 3

-- 0, or 3 for an audit that found a difference
abbrev pub status_of_report : Report → ℕ
status_of_report (report.Audited found text) = status_of_audit found
status_of_report (report.AuditedBlocks found text) = status_of_block_audit found
status_of_report told = 0

-- The report is of what was asked for, and that is done. It is help, or the version; the answer to a body on the sample book; that a
-- batch was decided, or blocks were, where the files hold what that comes to, and the journal of the run where one was asked for; what an
-- audit found, in words; the lines of a file; or that texts were packed, into a batch or into a block each.
abbrev pub IsDoneAs : Type 0 → Holding → Holding → Asked → Report → Type 0
IsDoneAs known old new (help text) (report.Help told) = string_bytes told ≡ text
IsDoneAs known old new version report.Version = Unit {0}
IsDoneAs known old new (one body) (report.Answer text) = IsAnswerInDigits sample_rows body (string_bytes text)
IsDoneAs known old new (serial names strictness) (report.Decided count) =
    IsDecided known old new names count × Admits strictness count
IsDoneAs known old new (run names workers engine strictness) (report.Decided count) =
    IsDecided known old new names count × Admits strictness count
IsDoneAs known old new (run_with_journal names workers journal strictness) (report.Decided count) =
    IsDecidedWithJournal known old new names journal count × Admits strictness count
IsDoneAs known old new (blocks names workers engine strictness) (report.DecidedBlocks count) =
    AreBlocksDecided known old new names count.blocks count.messages × Admits strictness count.messages
IsDoneAs known old new (audit names None) (report.Audited found text) =
    IsAudited known old names found × (text.items ≡ audit_text found)
IsDoneAs known old new (audit names (Some journal)) (report.Audited found text) =
    IsAuditedWithJournal known old names journal found × (text.items ≡ audit_text found)
IsDoneAs known old new (audit_blocks names) (report.AuditedBlocks found text) =
    AreBlocksAudited known old names found × (text.items ≡ block_audit_text found)
IsDoneAs known old new (show file) (report.Lines text) = IsShown known old Lines file text.items
IsDoneAs known old new (pack texts batch) (report.Packed count) = ArePacked known old new texts batch count
IsDoneAs known old new (pack_blocks texts file) (report.PackedBlocks bodies count) =
    ArePackedInBlocks known old new texts file bodies × (count ≡ length texts)
IsDoneAs known old new what told = ⊥

-- Some first blocks are kept, so many, and the files hold what these come to; behind them this fault came. None are where they may be
-- refused.
abbrev pub IsHaltedAs : Type 0 → Holding → Holding → Failing → Asked → JobFault → ℕ → Type 0
IsHaltedAs known old new devices (blocks names workers engine strictness) fault kept =
    (strictness ≡ Lenient) × (why : BatchFault) × (fault ≡ Batch why) × AreBlocksKept known old new names (devices.writing names.replies) why kept
IsHaltedAs known old new devices what fault kept = ⊥

-- the file of this name is none of those that are written for what is asked for
abbrev pub Spares : Asked → List ℕ → Type 0
Spares (serial names strictness) file = (file ≢ names.replies) × (file ≢ names.new_book)
Spares (run names workers engine strictness) file = (file ≢ names.replies) × (file ≢ names.new_book)
Spares (run_with_journal names workers journal strictness) file = (file ≢ names.replies) × (file ≢ names.new_book) × (file ≢ journal)
Spares (blocks names workers engine strictness) file = (file ≢ names.replies) × (file ≢ names.new_book)
Spares (pack texts batch) file = file ≢ batch
Spares (pack_blocks texts made) file = file ≢ made
Spares what file = Unit {0}

-- Why what is asked for is not done, as the files were: the first fault of what they held, in the order of reading; a call that failed, on a
-- file of which calls may fail; or out of memory.
abbrev pub IsJobFault : Holding → Failing → Asked → JobFault → Type 0
IsJobFault old devices (help text) fault = ⊥
IsJobFault old devices version fault = ⊥
IsJobFault old devices (one body) fault = ⊥
IsJobFault old devices (serial names strictness) fault = IsDecidingFault strictness old devices names fault
IsJobFault old devices (run names workers engine strictness) fault = IsDecidingFault strictness old devices names fault
IsJobFault old devices (run_with_journal names workers journal strictness) fault =
    IsDecidingFaultWithJournal strictness old devices names journal fault
IsJobFault old devices (blocks names workers engine strictness) fault = IsBlocksFault strictness old devices names fault
IsJobFault old devices (audit names None) fault = IsAuditingFault old devices names fault
IsJobFault old devices (audit names (Some journal)) fault = IsJournalAuditingFault old devices names journal fault
IsJobFault old devices (audit_blocks names) fault = IsBlockAuditingFault old devices names fault
IsJobFault old devices (show file) fault = IsShowFault old devices file fault
IsJobFault old devices (pack texts batch) fault = IsPackingFault old devices texts batch fault
IsJobFault old devices (pack_blocks texts file) fault = IsBlockPackingFault old devices texts file fault

-- of the files that a batch's answer is put in, one is in use
abbrev pub IsAnswerInUse : (List ℕ → Type 0) → Names → Type 0
IsAnswerInUse in_use names = in_use names.replies ⊎ in_use names.new_book

-- of the files that an audit looks at and a run writes, one is in use
abbrev pub IsAuditedInUse : (List ℕ → Type 0) → Names → Type 0
IsAuditedInUse in_use names = in_use names.book ⊎ IsAnswerInUse in_use names

-- of the files that are claimed for what is asked for, one is in use
abbrev pub IsOneInUse : (List ℕ → Type 0) → Asked → Type 0
IsOneInUse in_use (serial names strictness) = IsAnswerInUse in_use names
IsOneInUse in_use (run names workers engine strictness) = IsAnswerInUse in_use names
IsOneInUse in_use (run_with_journal names workers journal strictness) = IsAnswerInUse in_use names ⊎ in_use journal
IsOneInUse in_use (blocks names workers engine strictness) = IsAnswerInUse in_use names
IsOneInUse in_use (audit names journal) = IsAuditedInUse in_use names
IsOneInUse in_use (audit_blocks names) = IsAuditedInUse in_use names
IsOneInUse in_use (pack texts batch) = in_use batch
IsOneInUse in_use (pack_blocks texts file) = in_use file
IsOneInUse in_use what = ⊥

-- why files are not claimed: another run has claimed one, or memory ran out
abbrev pub IsClaimFault : Type 0 → Fault → Type 0
IsClaimFault in_use OutOfMemory = Unit {0}
IsClaimFault in_use (Job fault) = ((fault ≡ InUse) × in_use) ⊎ (fault ≡ job.OutOfMemory)
IsClaimFault in_use _ = ⊥

-- What is asked for has this fault. Two of its names are one file's, one of its files is in use, memory ran out, or it isn't done with the
-- files for why that is: then all files are as they were. Or blocks are done in part.
abbrev pub IsFaultIn : Type 0 → Holding → Holding → Failing → Asked → Fault → Type 0
IsFaultIn known old new devices what (Usage text) = AreAsTheyWere old new × (known → HasOneFile (names_apart what))
IsFaultIn known old new devices what OutOfMemory = AreAsTheyWere old new
IsFaultIn known old new devices what (Job fault) =
    AreAsTheyWere old new × (IsJobFault old devices what fault ⊎ IsClaimFault (IsOneInUse devices.in_use what) (Job fault))
IsFaultIn known old new devices what (Halted fault kept) = IsHaltedAs known old new devices what fault kept × IsJobFault old devices what fault

-- the line is what a person is told of the fault of a job: the name of one of the files, and the reason
abbrev pub IsToldOfJob : Holding → Asked → JobFault → List ℕ → Type 0
IsToldOfJob holds what fault line = (name : List ℕ) × IsLineOf name (Tells holds what fault) line

-- only of faults of jobs something is told
abbrev pub IsTold : Holding → Asked → Fault → List ℕ → Type 0
IsTold holds what (Job fault) line = IsToldOfJob holds what fault line
IsTold holds what (Halted fault kept) line = IsToldOfJob holds what fault line
IsTold holds what _ line = ⊥

-- what is asked for is done, or by a fault it isn't
abbrev pub IsDoneOrFault : Type 0 → Holding → Holding → Failing → Asked → Result Report Fault → Type 0
IsDoneOrFault known old new devices what result = MatchResult result (IsDoneAs known old new what) (IsFaultIn known old new devices what)

-- each file that isn't written for it is as it was
abbrev pub SparesOthers : Holding → Holding → Asked → Type 0
SparesOthers old new what = (other : List ℕ) → Spares what other → IsAsItWas old new other

-- what is asked for has this fault, and what is told is told of what the files hold now
abbrev pub IsRefusalIn : Type 0 → Holding → Holding → Failing → Asked → Refusal → Type 0
IsRefusalIn known old new devices what refusal =
    IsFaultIn known old new devices what refusal.fault × IfSome refusal.words (λ line. IsTold new what refusal.fault line.items)

-- the words alone have this fault
abbrev pub IsFaultOfWords : List (List ℕ) → Fault → Type 0
IsFaultOfWords words (Usage text) = IsUsageFault words
IsFaultOfWords words OutOfMemory = Unit {0}
IsFaultOfWords words fault = ⊥

-- the report is of what the words ask for, whose names are of as many files as they have to be
abbrev pub IsAskedFor : Type 0 → Holding → Holding → List (List ℕ) → Report → Type 0
IsAskedFor known old new words told = (what : Asked) × Asks words what × (known → AreApart (names_apart what)) × IsDoneAs known old new what told

-- the words have this fault: they are no command, or memory ran out, and all files are as they were; or what they ask for has it
abbrev pub IsFaultOf : Type 0 → Holding → Holding → Failing → List (List ℕ) → Fault → Type 0
IsFaultOf known old new devices words fault =
    (AreAsTheyWere old new × IsFaultOfWords words fault) ⊎ ((what : Asked) × Asks words what × IsFaultIn known old new devices what fault)

-- of what the words ask for this is told
abbrev pub IsToldFor : Holding → List (List ℕ) → Fault → List ℕ → Type 0
IsToldFor holds words fault line = (what : Asked) × Asks words what × IsTold holds what fault line

-- the words have this fault, and what is told is told of what they ask for
abbrev pub IsRefusalOf : Type 0 → Holding → Holding → Failing → List (List ℕ) → Refusal → Type 0
IsRefusalOf known old new devices words refusal =
    IsFaultOf known old new devices words refusal.fault × IfSome refusal.words (λ line. IsToldFor new words refusal.fault line.items)

-- the file of this name is none of those that are written for what the words ask for
abbrev pub AreSparing : List (List ℕ) → List ℕ → Type 0
AreSparing words file = (what : Asked) → Asks words what → Spares what file

-- what is printed on standard output and on standard error, before and after, and whether standard output lost some of it
pub record Pages : Type 0 where
  pub out : Option (List ℕ)
  pub err : Option (List ℕ)
  pub is_lost : Bool

-- what is asked for is done, and reported on standard output, nothing goes to standard error, and the status is the report's
pub record IsDone (known : Type 0) (old_files new_files : Holding) (words : List (List ℕ)) (old new : Pages) (status : ℕ) : Type 0 where
  pub told : Report
  pub asked : IsAskedFor known old_files new_files words told
  pub out : Prints old.out new.out (text_of_report told)
  pub taken : new.is_lost ≡ false
  pub err : new.err ≡ old.err
  pub by_report : status ≡ status_of_report told

-- what is asked for is done, but standard output didn't take its report: standard error says so, and the status is that of a fault
pub record IsUnreported (known : Type 0) (old_files new_files : Holding) (words : List (List ℕ)) (old new : Pages) (status : ℕ) : Type 0 where
  pub told : Report
  pub asked : IsAskedFor known old_files new_files words told
  pub lost : new.is_lost ≡ true
  pub err : PrintsLine old.err new.err (codes "output 1")
  pub failed : status ≡ 1

-- The fault is a line of standard error, or two, and behind it may stand one more line, which tells a person the name of one of the files,
-- the place and the reason; nothing goes to standard output, and the status is the fault's.
pub record IsRefused (known : Type 0) (old_files new_files : Holding) (devices : Failing) (words : List (List ℕ)) (old new : Pages) (status : ℕ) : Type 0 where
  pub fault : Fault
  pub has : IsFaultOf known old_files new_files devices words fault
  pub told : Option (Vec ℕ)
  pub tells : IfSome told (λ line. IsToldFor new_files words fault line.items)
  pub out : new.out ≡ old.out
  pub err : PrintsLine old.err new.err (text_of fault ++ behind (option_map (λ line. line.items) told))
  pub by_fault : status ≡ status_of fault

-- the words are done, with or without a report, or refused
abbrev pub IsActed : Type 0 → Holding → Holding → Failing → List (List ℕ) → Pages → Pages → ℕ → Type 0
IsActed known old_files new_files devices words old new status =
    IsDone known old_files new_files words old new status
    ⊎ (IsUnreported known old_files new_files words old new status ⊎ IsRefused known old_files new_files devices words old new status)
