-- What the program says of the files that it left.
use Rattle.std.proofs.Common.{◌≡◌, ◌≢◌, ◌⊎◌, ℕ, List, [], ◌∷◌, ◌++◌, Option, Some, None, codes, false, inl, inr, refl, sym, ap, ◌∙◌, subst, arith}
use Rattle.clap.specs.Faults.{fault_of}
use Rattle.clap.specs.Kinds.{IsAmong, Kinds}
use Rattle.clap.specs.declared.error.kind.ErrorKind.{ErrorKind}
use Rattle.clap.specs.declared.error.kind.ErrorKind.TheVariants as kinds
use Rattle.app_words.specs.Asked.{Asked, Names, audit, audit_blocks, blocks, help, one, pack, pack_blocks, run, run_with_journal, serial, show, version}
use Rattle.app_words.specs.Arguments.{Asks, asked_in}
use Rattle.app_words.specs.CommandLine.{command_line}
use Rattle.app_runs.specs.Words.{AreBlocksAudited, AreBlocksDecided, IsAudited, IsAuditedWithJournal, IsAuditingFault, IsBlockAuditingFault, IsDecided, JobFault}
use Rattle.app_audit.specs.Texts.{audit_text, block_audit_text}
use Rattle.app_audit.specs.declared.audited.Audit.{Audit}
use Rattle.app_audit.specs.declared.block_audit.BlockAudit.{BlockAudit}
use Rattle.app_audit.specs.declared.audited.Audit.TheVariants as in_batch
use Rattle.app_audit.specs.declared.block_audit.BlockAudit.TheVariants as in_blocks
use Rattle.app_commands.specs.Answered.{IsActed, IsAuditedInUse, IsAskedFor, IsDoneAs, IsFaultIn, IsFaultOfWords, IsHaltedAs, IsJobFault, IsOneInUse, Pages, Spares, status_of_audit, status_of_block_audit, status_of_report, text_of_report}
use Rattle.app_commands.specs.Apart.{AreApart, HasOneFile, batch_apart, names_apart}
use Rattle.app_commands.specs.Fault.{status_of}
use Rattle.app_commands.specs.Printed.{Prints}
use Rattle.app_commands.specs.declared.fault.Fault.{Fault}
use Rattle.app_commands.specs.declared.fault.Fault.TheVariants.{Usage, OutOfMemory, Job, Halted}
use Rattle.app_commands.specs.declared.report.Report.{Report}
use Rattle.app_commands.specs.declared.report.Report.TheVariants as report
use Rattle.app_runs.specs.Journaled.{IsDecidedWithJournal}
use Rattle.app_words.specs.declared.engine_choice.EngineChoice.{EngineChoice}
use Rattle.file_batch.specs.declared.strictness.Strictness.{Strictness}
use Rattle.file_batch.specs.Words.{Failing, Holding, IsAsItWas}
use Rattle.app_laws.specs.Acted.{Acts, HasStopped, IsAuditOf, IsFromOutside, Reports, ReportsNothing, SaysSame, SaysSameByJournal, of_blocks, of_run, of_run_with_journal, of_serial}
use Rattle.app_laws.specs.Faults.{IsOfNoFile, MayNotBeRead}
use Rattle.app_laws.specs.Journals.{IsFoundByJournal}
use Rattle.app_laws.specs.Kept.{AreInputsKept}
use Rattle.app_laws.proofs.BlockFiles.{no_fault_of_blocks, says_same_of_blocks}
use Rattle.app_laws.proofs.JournalFiles.{no_fault_by_journal, no_fault_without, says_same_by_journal, says_same_without}
use Rattle.app_laws.proofs.RunFiles.{no_fault_of_files, out_of_memory, says_same_of_files}

-- ---- words ask for one thing

-- without a fault, the subcommand asks for this
record AsksBySubcommand (words : List (List ℕ)) (what : Asked) : Type 0 where
  none : fault_of command_line words ≡ []
  asked : asked_in words ≡ Some what

not_among : (kind : ErrorKind) (faults : Kinds) → faults ≡ [] → IsAmong kind faults → ⊥
not_among kind [] none among = among
not_among kind (k ∷ kinds) none among = absurd cc

one_asked : (asked : Option Asked) (what other : Asked) → asked ≡ Some what → asked ≡ Some other → other ≡ what
one_asked asked what other a b =
    let both = sym b ∙ a in
    cc

nothing_asked : (asked : Option Asked) (what : Asked) → asked ≡ Some what → asked ≡ None → ⊥
nothing_asked asked what a b =
    let both = sym b ∙ a in
    cc

other_way : {x y : List ℕ} → x ≢ y → y ≢ x
other_way apart e = apart (sym e)

asked_alone : (words : List (List ℕ)) (what other : Asked) → AsksBySubcommand words what → Asks words other → other ≡ what
asked_alone words what (help text) by h = absurd (not_among kinds.DisplayHelp (fault_of command_line words) by.none h)
asked_alone words what version by h = absurd (not_among kinds.DisplayVersion (fault_of command_line words) by.none h)
asked_alone words what (one body) by h = one_asked (asked_in words) what (one body) by.asked h.1
asked_alone words what (serial names strictness) by h = one_asked (asked_in words) what (serial names strictness) by.asked h.1
asked_alone words what (run names workers engine strictness) by h = one_asked (asked_in words) what (run names workers engine strictness) by.asked h.1
asked_alone words what (run_with_journal names workers journal strictness) by h = one_asked (asked_in words) what (run_with_journal names workers journal strictness) by.asked h.1
asked_alone words what (blocks names workers engine strictness) by h = one_asked (asked_in words) what (blocks names workers engine strictness) by.asked h.1
asked_alone words what (audit names journal) by h = one_asked (asked_in words) what (audit names journal) by.asked h.1
asked_alone words what (audit_blocks names) by h = one_asked (asked_in words) what (audit_blocks names) by.asked h.1
asked_alone words what (show file) by h = one_asked (asked_in words) what (show file) by.asked h.1
asked_alone words what (pack texts batch) by h = one_asked (asked_in words) what (pack texts batch) by.asked h.1
asked_alone words what (pack_blocks texts file) by h = one_asked (asked_in words) what (pack_blocks texts file) by.asked h.1

-- ---- status 0

-- what the words ask for is done, by names of as many files as they have to be
record IsDoneOf (known : Type 0) (old new : Holding) (what : Asked) : Type 0 where
  told : Report
  apart : known → AreApart (names_apart what)
  done : IsDoneAs known old new what told

zero_is_one : ◌≡◌ {A = ℕ} 0 1 → ⊥
zero_is_one e = omega (arith, e)

zero_is_two : ◌≡◌ {A = ℕ} 0 2 → ⊥
zero_is_two e = omega (arith, e)

no_fault_with_status_0 : (fault : Fault) → 0 ≡ status_of fault → ⊥
no_fault_with_status_0 (Usage text) e = zero_is_two e
no_fault_with_status_0 OutOfMemory e = zero_is_one e
no_fault_with_status_0 (Job fault) e = zero_is_one e
no_fault_with_status_0 (Halted fault kept) e = zero_is_one e

done_of_asked : (known : Type 0) (old new : Holding) (words : List (List ℕ)) (what : Asked) (told : Report) → AsksBySubcommand words what
    → IsAskedFor known old new words told → IsDoneOf known old new what
done_of_asked known old new words what told by asked =
    let same = asked_alone words what asked.0 by asked.1 in
    record {
      told = told;
      apart = subst (λ (w : Asked). known → AreApart (names_apart w)) same asked.2;
      done = subst (λ (w : Asked). IsDoneAs known old new w told) same asked.3;
    }

done_of_0 : (known : Type 0) (old new : Holding) (devices : Failing) (words : List (List ℕ)) (what : Asked) (before after : Pages) → AsksBySubcommand words what
    → IsActed known old new devices words before after 0 → IsDoneOf known old new what
done_of_0 known old new devices words what before after by acted = elim acted [
  | inl done ↦ done_of_asked known old new words what done.told by done.asked
  | inr other ↦ elim other [
    | inl unreported ↦ absurd (zero_is_one unreported.failed)
    | inr refused ↦ absurd (no_fault_with_status_0 refused.fault refused.by_fault)
  ]
]

-- ---- an audit that finds no fault of a file

-- what its report may be: this text with this status
abbrev Telling : Type 1
Telling = List ℕ → ℕ → Type 0

record Tells (known : Type 0) (holds : Holding) (devices : Failing) (how : Asked) (may_fail in_use : Type 0) (says : Telling) : Type 1 where
  reported : (later : Holding) (told : Report) → IsDoneAs known holds later how told → says (text_of_report told) (status_of_report told)
  fault : (fault : JobFault) → IsJobFault holds devices how fault → IsOfNoFile may_fail fault
  used : IsOneInUse devices.in_use how → in_use
  apart : HasOneFile (names_apart how) → ⊥
  halted : (later : Holding) (fault : JobFault) (kept : ℕ) → IsHaltedAs known holds later devices how fault kept → ⊥

-- `same`, and 0
abbrev IsSame : Telling
IsSame text code = (text ≡ codes "same" ++ 10 ∷ []) × (code ≡ 0)

batch_found : (known : Type 0) (holds later : Holding) (names : Names) → ((found : Audit) → IsAudited known holds names found → found ≡ in_batch.Same)
    → (told : Report) → IsDoneAs known holds later (audit names None) told → IsSame (text_of_report told) (status_of_report told)
batch_found known holds later names same (report.Audited found text) h =
    let is = same found h.0 in
    (ap (λ (line : List ℕ). line ++ 10 ∷ []) (h.1 ∙ ap audit_text is), ap status_of_audit is)
batch_found known holds later names same _ h = absurd h

batch_tells : (known : Type 0) (holds : Holding) (devices : Failing) (names : Names) → ((found : Audit) → IsAudited known holds names found → found ≡ in_batch.Same)
    → ((fault : JobFault) → IsAuditingFault holds devices names fault → IsOfNoFile (MayNotBeRead devices names) fault)
    → Tells known holds devices (audit names None) (MayNotBeRead devices names) (IsAuditedInUse devices.in_use names) IsSame
batch_tells known holds devices names same none = record {
  reported = λ later. batch_found known holds later names same;
  fault = none;
  used = λ u. u;
  apart = λ same_file. same_file;
  halted = λ later fault kept halt. halt;
}

found_of_blocks : (known : Type 0) (holds later : Holding) (names : Names)
    → ((found : BlockAudit) → AreBlocksAudited known holds names found → found ≡ in_blocks.Same)
    → (told : Report) → IsDoneAs known holds later (audit_blocks names) told → IsSame (text_of_report told) (status_of_report told)
found_of_blocks known holds later names same (report.AuditedBlocks found text) h =
    let is = same found h.0 in
    (ap (λ (line : List ℕ). line ++ 10 ∷ []) (h.1 ∙ ap block_audit_text is), ap status_of_block_audit is)
found_of_blocks known holds later names same _ h = absurd h

blocks_tell : (known : Type 0) (holds : Holding) (devices : Failing) (names : Names)
    → ((found : BlockAudit) → AreBlocksAudited known holds names found → found ≡ in_blocks.Same)
    → ((fault : JobFault) → IsBlockAuditingFault holds devices names fault → IsOfNoFile (MayNotBeRead devices names) fault)
    → Tells known holds devices (audit_blocks names) (MayNotBeRead devices names) (IsAuditedInUse devices.in_use names) IsSame
blocks_tell known holds devices names same none = record {
  reported = λ later. found_of_blocks known holds later names same;
  fault = none;
  used = λ u. u;
  apart = λ same_file. same_file;
  halted = λ later fault kept halt. halt;
}

-- by a journal: `same`, or where its core has stopped that the count differs
abbrev IsSameOr : Type 0 → Telling
IsSameOr stopped text code = IsSame text code ⊎ ((text ≡ codes "count differs" ++ 10 ∷ []) × (code ≡ 3) × stopped)

text_is : (line : List ℕ) (found other : Audit) → line ≡ audit_text found → found ≡ other → line ++ 10 ∷ [] ≡ audit_text other ++ 10 ∷ []
text_is line found other is same = ap (λ (text : List ℕ). text ++ 10 ∷ []) (is ∙ ap audit_text same)

found_by_journal : (known : Type 0) (holds later : Holding) (names : Names) (journal : List ℕ) (stopped : Type 0)
    → ((found : Audit) → IsAuditedWithJournal known holds names journal found → (found ≡ in_batch.Same) ⊎ ((found ≡ in_batch.CountDiffers) × stopped))
    → (told : Report) → IsDoneAs known holds later (audit names (Some journal)) told → IsSameOr stopped (text_of_report told) (status_of_report told)
found_by_journal known holds later names journal stopped finds (report.Audited found text) h = elim (finds found h.0) [
  | inl same ↦ inl (text_is text.items found in_batch.Same h.1 same, ap status_of_audit same)
  | inr differs ↦ inr (text_is text.items found in_batch.CountDiffers h.1 differs.0, ap status_of_audit differs.0, differs.1)
]
found_by_journal known holds later names journal stopped finds _ h = absurd h

-- words that ask for something have no fault
outside_words : (may_fail in_use : Type 0) (words : List (List ℕ)) (how : Asked) (fault : Fault) → AsksBySubcommand words how → IsFaultOfWords words fault → IsFromOutside may_fail in_use fault
outside_words may_fail in_use words how (Usage text) by h = elim h [
  | inl kind ↦ absurd (not_among kind.0 (fault_of command_line words) by.none kind.3)
  | inr nothing ↦ absurd (nothing_asked (asked_in words) how by.asked nothing.1)
]
outside_words may_fail in_use words how OutOfMemory by h = tt
outside_words may_fail in_use words how (Job fault) by h = absurd h
outside_words may_fail in_use words how (Halted fault kept) by h = absurd h

outside_job : (known : Type 0) (holds later : Holding) (devices : Failing) (how : Asked) (may_fail in_use : Type 0) (says : Telling) (fault : Fault) → known
    → Tells known holds devices how may_fail in_use says → IsFaultIn known holds later devices how fault → IsFromOutside may_fail in_use fault
outside_job known holds later devices how may_fail in_use says (Usage text) k tells h = absurd (tells.apart (h.1 k))
outside_job known holds later devices how may_fail in_use says OutOfMemory k tells h = tt
outside_job known holds later devices how may_fail in_use says (Job fault) k tells h = elim h.1 [
  | inl why ↦ inl (tells.fault fault why)
  | inr claim ↦ elim claim [
    | inl used ↦ inr (used.0, tells.used used.1)
    | inr memory ↦ inl (out_of_memory may_fail fault memory)
  ]
]
outside_job known holds later devices how may_fail in_use says (Halted fault kept) k tells h = absurd (tells.halted later fault kept h.0)

status_from_outside : (may_fail in_use : Type 0) (fault : Fault) → IsFromOutside may_fail in_use fault → status_of fault ≡ 1
status_from_outside may_fail in_use (Usage text) is = absurd is
status_from_outside may_fail in_use OutOfMemory is = refl
status_from_outside may_fail in_use (Job fault) is = refl
status_from_outside may_fail in_use (Halted fault kept) is = absurd is

-- the report, where there is one
record ReportsAs (says : Telling) (old new : Pages) (status : ℕ) : Type 0 where
  text : List ℕ
  code : ℕ
  is : says text code
  out : Prints old.out new.out text
  taken : new.is_lost ≡ false
  err : new.err ≡ old.err
  done : status ≡ code

reports_at : (known : Type 0) (holds later : Holding) (devices : Failing) (words : List (List ℕ)) (how : Asked) (may_fail in_use : Type 0) (says : Telling)
    (before after : Pages) (status : ℕ) → known → AsksBySubcommand words how → Tells known holds devices how may_fail in_use says → IsActed known holds later devices words before after status
    → ReportsAs says before after status ⊎ ReportsNothing may_fail in_use before after status
reports_at known holds later devices words how may_fail in_use says before after status k by tells acted = elim acted [
  | inl done ↦
      let same = asked_alone words how done.asked.0 by done.asked.1 in
      let is : IsDoneAs known holds later how done.told = subst (λ (w : Asked). IsDoneAs known holds later w done.told) same done.asked.3 in
      inl (record {
        text = text_of_report done.told;
        code = status_of_report done.told;
        is = tells.reported later done.told is;
        out = done.out;
        taken = done.taken;
        err = done.err;
        done = done.by_report;
      })
  | inr other ↦ elim other [
    | inl unreported ↦ inr (inl (record { lost = unreported.lost; err = unreported.err; failed = unreported.failed }))
    | inr refused ↦
        let outside : IsFromOutside may_fail in_use refused.fault = elim refused.has [
          | inl words_fault ↦ outside_words may_fail in_use words how refused.fault by words_fault.1
          | inr job_fault ↦
              let same = asked_alone words how job_fault.0 by job_fault.1 in
              outside_job known holds later devices how may_fail in_use says refused.fault k tells
              (subst (λ (w : Asked). IsFaultIn known holds later devices w refused.fault) same job_fault.2)
        ] in
        inr (inr (record {
          fault = refused.fault;
          is = outside;
          out = refused.out;
          told = refused.told;
          err = refused.err;
          failed = refused.by_fault ∙ status_from_outside may_fail in_use refused.fault outside;
        }))
  ]
]

reports_line : (says : Telling) (old new : Pages) (status : ℕ) (line : List ℕ) (code : ℕ) (told : ReportsAs says old new status) → told.text ≡ line ++ 10 ∷ []
    → told.code ≡ code → Reports line code old new status
reports_line says old new status line code told text number = record {
  out = subst (λ (t : List ℕ). Prints old.out new.out t) text told.out;
  taken = told.taken;
  err = told.err;
  done = told.done ∙ number;
}

says_same : (may_fail in_use : Type 0) (old new : Pages) (status : ℕ) → ReportsAs IsSame old new status ⊎ ReportsNothing may_fail in_use old new status
    → SaysSame may_fail in_use old new status
says_same may_fail in_use old new status (inl told) = inl (reports_line IsSame old new status (codes "same") 0 told told.is.0 told.is.1)
says_same may_fail in_use old new status (inr nothing) = inr nothing

says_same_or : (stopped may_fail in_use : Type 0) (old new : Pages) (status : ℕ)
    → ReportsAs (IsSameOr stopped) old new status ⊎ ReportsNothing may_fail in_use old new status → SaysSameByJournal stopped may_fail in_use old new status
says_same_or stopped may_fail in_use old new status (inl told) = elim told.is [
  | inl same ↦ inl (inl (reports_line (IsSameOr stopped) old new status (codes "same") 0 told same.0 same.1))
  | inr differs ↦ inr (reports_line (IsSameOr stopped) old new status (codes "count differs") 3 told differs.0 differs.1, differs.2)
]
says_same_or stopped may_fail in_use old new status (inr nothing) = inl (inr nothing)

-- ---- what was decided

inputs_kept : (known : Type 0) (old new : Holding) (names : Names) → known → names.book ≢ names.new_book → AreApart (batch_apart names)
    → IsAsItWas old new names.book → IsAsItWas old new names.batch → AreInputsKept known old new names
inputs_kept known old new names k two apart book batch = record { was_known = k; book = book; batch = batch; apart = apart.0 }

-- a file that is spared is as it was
kept_by : (known : Type 0) (old new : Holding) (devices : Failing) (words : List (List ℕ)) (before after : Pages) (status : ℕ) (what : Asked) (other : List ℕ)
    → Acts known old new devices words before after status → AsksBySubcommand words what → Spares what other → IsAsItWas old new other
kept_by known old new devices words before after status what other acts by spares =
    acts.others other (λ asked asks. subst (λ (w : Asked). Spares w other) (sym (asked_alone words what asked by asks)) spares)

serial_done : (known : Type 0) (old new : Holding) (names : Names) (strictness : Strictness) (told : Report) → IsDoneAs known old new (serial names strictness) told
    → (count : _) × IsDecided known old new names count
serial_done known old new names strictness (report.Decided count) h = (count, h.0)
serial_done known old new names strictness _ h = absurd h

run_done : (known : Type 0) (old new : Holding) (names : Names) (workers : ℕ) (engine : EngineChoice) (strictness : Strictness) (told : Report)
    → IsDoneAs known old new (run names workers engine strictness) told
    → (count : _) × IsDecided known old new names count
run_done known old new names workers engine strictness (report.Decided count) h = (count, h.0)
run_done known old new names workers engine strictness _ h = absurd h

journaled_done : (known : Type 0) (old new : Holding) (names : Names) (workers : ℕ) (journal : List ℕ) (strictness : Strictness) (told : Report)
    → IsDoneAs known old new (run_with_journal names workers journal strictness) told → (count : _) × IsDecidedWithJournal known old new names journal count
journaled_done known old new names workers journal strictness (report.Decided count) h = (count, h.0)
journaled_done known old new names workers journal strictness _ h = absurd h

blocks_done : (known : Type 0) (old new : Holding) (names : Names) (workers : ℕ) (engine : EngineChoice) (strictness : Strictness) (told : Report)
    → IsDoneAs known old new (blocks names workers engine strictness) told
    → (count : _) × (messages : _) × AreBlocksDecided known old new names count messages
blocks_done known old new names workers engine strictness (report.DecidedBlocks count) h = (count.blocks, count.messages, h.0)
blocks_done known old new names workers engine strictness _ h = absurd h

deciding_by : (words : List (List ℕ)) (names : Names) (what how : Asked) → IsAuditOf names what how → Asks words what → AsksBySubcommand words what
deciding_by words names what how (of_serial n strictness) asks = record { none = asks.0; asked = asks.1 }
deciding_by words names what how (of_run n workers engine strictness) asks = record { none = asks.0; asked = asks.1 }
deciding_by words names what how (of_run_with_journal n workers journal strictness) asks = record { none = asks.0; asked = asks.1 }
deciding_by words names what how (of_blocks n workers engine strictness) asks = record { none = asks.0; asked = asks.1 }

auditing_by : (words : List (List ℕ)) (names : Names) (what how : Asked) → IsAuditOf names what how → Asks words how → AsksBySubcommand words how
auditing_by words names what how (of_serial n strictness) asks = record { none = asks.0; asked = asks.1 }
auditing_by words names what how (of_run n workers engine strictness) asks = record { none = asks.0; asked = asks.1 }
auditing_by words names what how (of_run_with_journal n workers journal strictness) asks = record { none = asks.0; asked = asks.1 }
auditing_by words names what how (of_blocks n workers engine strictness) asks = record { none = asks.0; asked = asks.1 }

audit_tells : (known later : Type 0) (old new : Holding) (devices : Failing) (names : Names) (what how : Asked) → IsAuditOf names what how → known
    → names.book ≢ names.new_book → IsDoneOf known old new what → ((other : List ℕ) → Spares what other → IsAsItWas old new other)
    → Tells later new devices how (MayNotBeRead devices names) (IsAuditedInUse devices.in_use names) IsSame
audit_tells known later old new devices names what how (of_serial n strictness) k two done kept =
    let apart = done.apart k in
    let inputs = inputs_kept known old new n k two apart (kept n.book (other_way apart.1.0, two)) (kept n.batch (other_way apart.1.1.0, other_way apart.1.1.1.0)) in
    let decided = serial_done known old new n strictness done.told done.done in
    batch_tells later new devices n (λ found. says_same_of_files known later old new n decided.0 found inputs decided.1)
    (λ fault. no_fault_of_files known old new devices n decided.0 fault inputs decided.1)
audit_tells known later old new devices names what how (of_run n workers engine strictness) k two done kept =
    let apart = done.apart k in
    let inputs = inputs_kept known old new n k two apart (kept n.book (other_way apart.1.0, two)) (kept n.batch (other_way apart.1.1.0, other_way apart.1.1.1.0)) in
    let decided = run_done known old new n workers engine strictness done.told done.done in
    batch_tells later new devices n (λ found. says_same_of_files known later old new n decided.0 found inputs decided.1)
    (λ fault. no_fault_of_files known old new devices n decided.0 fault inputs decided.1)
audit_tells known later old new devices names what how (of_run_with_journal n workers journal strictness) k two done kept =
    let all = done.apart k in
    let apart = all.1.1.1.1 in
    let inputs = inputs_kept known old new n k two apart (kept n.book (other_way apart.1.0, two, other_way all.1.1.0))
    (kept n.batch (other_way apart.1.1.0, other_way apart.1.1.1.0, other_way all.1.1.1.0)) in
    let decided = journaled_done known old new n workers journal strictness done.told done.done in
    batch_tells later new devices n (λ found. says_same_without known later old new n journal decided.0 found inputs (other_way all.0) decided.1)
    (λ fault. no_fault_without known old new devices n journal decided.0 fault inputs (other_way all.0) decided.1)
audit_tells known later old new devices names what how (of_blocks n workers engine strictness) k two done kept =
    let apart = done.apart k in
    let inputs = inputs_kept known old new n k two apart (kept n.book (other_way apart.1.0, two)) (kept n.batch (other_way apart.1.1.0, other_way apart.1.1.1.0)) in
    let decided = blocks_done known old new n workers engine strictness done.told done.done in
    blocks_tell later new devices n (λ found. says_same_of_blocks known later old new n decided.0 decided.1 found inputs decided.2)
    (λ fault. no_fault_of_blocks known old new devices n decided.0 decided.1 fault inputs decided.2)

pub right_behind : (known later : Type 0) (old new end : Holding) (running auditing : Failing) (names : Names) (what how : Asked) (deciding words : List (List ℕ))
    (first last before after : Pages) (status : ℕ) → IsAuditOf names what how → names.book ≢ names.new_book → known → later → Asks deciding what → Asks words how
    → Acts known old new running deciding first last 0 → Acts later new end auditing words before after status
    → SaysSame (MayNotBeRead auditing names) (IsAuditedInUse auditing.in_use names) before after status
right_behind known later old new end running auditing names what how deciding words first last before after status is two k l asks asks_audit ran audited =
    let by = deciding_by deciding names what how is asks in
    let done = done_of_0 known old new running deciding what first last by ran.acted in
    let tells = audit_tells known later old new auditing names what how is k two done (λ other. kept_by known old new running deciding first last 0 what other ran by) in
    says_same (MayNotBeRead auditing names) (IsAuditedInUse auditing.in_use names) before after status
    (reports_at later new end auditing words how (MayNotBeRead auditing names) (IsAuditedInUse auditing.in_use names) IsSame before after status l (auditing_by words names what how is asks_audit) tells audited.acted)

-- ---- the audit by the journal

journal_inputs : (known : Type 0) (old new : Holding) (names : Names) (workers : ℕ) (journal : List ℕ) (strictness : Strictness) → known → names.book ≢ names.new_book
    → AreApart (names_apart (run_with_journal names workers journal strictness)) → ((other : List ℕ) → Spares (run_with_journal names workers journal strictness) other → IsAsItWas old new other)
    → AreInputsKept known old new names
journal_inputs known old new names workers journal strictness k two all kept =
    let apart = all.1.1.1.1 in
    inputs_kept known old new names k two apart (kept names.book (other_way apart.1.0, two, other_way all.1.1.0))
    (kept names.batch (other_way apart.1.1.0, other_way apart.1.1.1.0, other_way all.1.1.1.0))

stopped_or_same : (known : Type 0) (old new : Holding) (names : Names) (journal : List ℕ) (count : _) (ran : IsDecidedWithJournal known old new names journal count)
    (found : Audit) → IsFoundByJournal ran.committed ran.frames found
    → (found ≡ in_batch.Same) ⊎ ((found ≡ in_batch.CountDiffers) × HasStopped known old new names journal)
stopped_or_same known old new names journal count ran found (inl same) = inl same
stopped_or_same known old new names journal count ran found (inr differs) = inr (differs.0, record { count = count; run = ran; fewer = differs.1 })

pub right_behind_by_journal : (known later : Type 0) (old new end : Holding) (running auditing : Failing) (names : Names) (workers : ℕ) (journal : List ℕ)
    (strictness : Strictness) (deciding words : List (List ℕ)) (first last before after : Pages) (status : ℕ) → names.book ≢ names.new_book → known → later
    → Asks deciding (run_with_journal names workers journal strictness) → Asks words (audit names (Some journal))
    → Acts known old new running deciding first last 0 → Acts later new end auditing words before after status
    → SaysSameByJournal (HasStopped known old new names journal) (MayNotBeRead auditing names ⊎ auditing.reading journal) (IsAuditedInUse auditing.in_use names)
    before after status
right_behind_by_journal known later old new end running auditing names workers journal strictness deciding words first last before after status two k l asks asks_audit ran
    audited =
    let what = run_with_journal names workers journal strictness in
    let may_fail = MayNotBeRead auditing names ⊎ auditing.reading journal in
    let in_use = IsAuditedInUse auditing.in_use names in
    let stopped = HasStopped known old new names journal in
    let by : AsksBySubcommand deciding what = record { none = asks.0; asked = asks.1 } in
    let audits : AsksBySubcommand words (audit names (Some journal)) = record { none = asks_audit.0; asked = asks_audit.1 } in
    let done = done_of_0 known old new running deciding what first last by ran.acted in
    let all = done.apart k in
    let inputs = journal_inputs known old new names workers journal strictness k two all (λ other. kept_by known old new running deciding first last 0 what other ran by) in
    let decided = journaled_done known old new names workers journal strictness done.told done.done in
    let tells : Tells later new auditing (audit names (Some journal)) may_fail in_use (IsSameOr stopped) = record {
      reported = λ end_files. found_by_journal later new end_files names journal stopped (λ found is.
          stopped_or_same known old new names journal decided.0 decided.1 found
          (says_same_by_journal known later old new names journal decided.0 found inputs (other_way all.0) all.1.0 decided.1 is));
      fault = λ fault. no_fault_by_journal known old new auditing names journal decided.0 fault inputs (other_way all.0) all.1.0 decided.1;
      used = λ u. u;
      apart = λ same_file. same_file;
      halted = λ end_files fault kept halt. halt;
    } in
    says_same_or stopped may_fail in_use before after status
    (reports_at later new end auditing words (audit names (Some journal)) may_fail in_use (IsSameOr stopped) before after status l audits tells audited.acted)
