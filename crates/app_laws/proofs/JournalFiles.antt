-- Audits of the files that a run with a journal left.
use Rattle.std.proofs.Common.{◌≡◌, ◌≢◌, ◌⊎◌, ℕ, List, length, inl, inr, refl, sym, ap, ◌∙◌}
use Rattle.std.proofs.lemmas.Bool.{cases_eq}
use Rattle.issuer_words.specs.Words.{Frame, ReplyBody, Rows}
use Rattle.app_runs.specs.Words.{IsAudited, IsAuditedWithJournal, IsAuditingFault, IsJournalAuditingFault, IsJournalFault, IsPlayingFault, JobFault}
use Rattle.app_audit.specs.PlayFinding.{FindsInPlay}
use Rattle.app_audit.specs.declared.audited.Audit.{Audit}
use Rattle.app_audit.specs.declared.audited.Audit.TheVariants as in_batch
use Rattle.app_jobs.specs.declared.job_fault.JobFault.TheVariants.{Unreadable, Unwritable, InUse, Book, Batch, Journal, Text, Bodies, OutOfMemory}
use Rattle.app_runs.specs.Journaled.{IsDecidedWithJournal}
use Rattle.file_batch.specs.Words.{Failing, Holding, Names}
use Rattle.stm_core_laws.specs.Play.{Play, opening_play}
use Rattle.stm_journal_text.specs.Journal.{AreEntries, journal_text}
use Rattle.stm_journal_text.specs.Logged.{IsFirstUnlogged, greatest}
use Rattle.stm_journal_text.specs.Plays.{Plays}
use Rattle.stm_journal_text.specs.declared.entry.Entry.{Entry}
use Rattle.stm_journal_text.specs.declared.replay_fault.ReplayFault.TheVariants as replay
use Rattle.stm_journal_text.proofs.First.{all_decided}
use Rattle.stm_journal_text.proofs.Lines.{journals_apart, no_wrong_line}
use Rattle.stm_journal_text.proofs.OneEntry.{one_play}
use Rattle.app_laws.specs.Faults.{IsOfNoFile, MayNotBeRead}
use Rattle.app_laws.specs.Journals.{IsFoundByJournal}
use Rattle.app_laws.specs.Kept.{AreInputsKept}
use Rattle.app_laws.proofs.Books.{one_book}
use Rattle.app_laws.proofs.Files.{one_batch}
use Rattle.app_laws.proofs.RunFiles.{HoldsRun, finds_of_held, held_behind, no_fault_in_order, of_these, of_these_alone, out_of_memory}

pub held_by_journaled_run : (known : Type 0) (old new : Holding) (names : Names) (journal : List ℕ) (count : _)
    (run : IsDecidedWithJournal known old new names journal count) → AreInputsKept known old new names → names.replies ≢ journal
    → HoldsRun new names run.rows run.frames
held_by_journaled_run known old new names journal count run inputs apart =
    let k = inputs.was_known in
    held_behind known old new names run.rows run.frames inputs (run.book_there k) run.opening (run.batch_there k) run.messages run.bodies
    (run.answered k apart inputs.apart) run.back (run.after k)

-- ---- without the journal

pub says_same_without : (known later : Type 0) (old new : Holding) (names : Names) (journal : List ℕ) (count : _) (found : Audit) → AreInputsKept known old new names
    → names.replies ≢ journal → IsDecidedWithJournal known old new names journal count → IsAudited later new names found → found ≡ in_batch.Same
says_same_without known later old new names journal count found inputs apart run audited =
    finds_of_held later new names run.rows audited.rows run.frames audited.frames audited.answers audited.rows_after_it found
    (held_by_journaled_run known old new names journal count run inputs apart) audited.held audited.finds

pub no_fault_without : (known : Type 0) (old new : Holding) (failing : Failing) (names : Names) (journal : List ℕ) (count : _) (fault : JobFault)
    → AreInputsKept known old new names → names.replies ≢ journal → IsDecidedWithJournal known old new names journal count
    → IsAuditingFault new failing names fault → IsOfNoFile (MayNotBeRead failing names) fault
no_fault_without known old new failing names journal count fault inputs apart run =
    let may_fail = MayNotBeRead failing names in
    no_fault_in_order new failing names run.rows run.frames may_fail (fault ≡ OutOfMemory) fault (of_these_alone failing names)
    (held_by_journaled_run known old new names journal count run inputs apart) (out_of_memory may_fail fault)

-- ---- by the journal

-- the journal's file holds these entries
record HoldsJournal (holds : Holding) (name : List ℕ) (entries : List Entry) : Type 0 where
  held : holds name (journal_text entries)
  are : AreEntries entries

one_journal : (holds : Holding) (name : List ℕ) (entries others : List Entry) → HoldsJournal holds name entries → AreEntries others
    → ((bytes : List ℕ) → holds name bytes → bytes ≡ journal_text others) → others ≡ entries
one_journal holds name entries others held are is = journals_apart others entries are held.are (sym (is (journal_text entries) held.held))

-- a journal that plays to this core, where all is right with the files
found_by_play : (rows : Rows) (frames : List Frame) (entries : List Entry) (answers : List ReplyBody) (after : Rows) (found : Audit) (core : Play) (committed : ℕ)
    → Plays (opening_play rows frames greatest) entries core → core.state.board.committed ≡ committed
    → ((same : committed ≡ length frames) → found ≡ in_batch.Same)
    → FindsInPlay rows frames entries answers after found → IsFoundByJournal committed frames found
found_by_play rows frames entries answers after found core committed plays count same finds =
    let one = one_play (opening_play rows frames greatest) entries finds.core core finds.plays plays in
    let number : finds.core.state.board.committed ≡ committed = ap (λ (c : Play). c.state.board.committed) one ∙ count in
    elim (cases_eq committed (length frames)) [
      | inl all ↦ inl (same all)
      | inr fewer ↦ inr (finds.fewer (λ (e : finds.core.state.board.committed ≡ length frames). fewer (sym number ∙ e)), fewer)
    ]

pub says_same_by_journal : (known later : Type 0) (old new : Holding) (names : Names) (journal : List ℕ) (count : _) (found : Audit) → AreInputsKept known old new names
    → names.replies ≢ journal → journal ≢ names.new_book → (run : IsDecidedWithJournal known old new names journal count)
    → IsAuditedWithJournal later new names journal found → IsFoundByJournal run.committed run.frames found
says_same_by_journal known later old new names journal count found inputs apart logged run audited =
    let held = held_by_journaled_run known old new names journal count run inputs apart in
    let book = one_book new names.book run.rows audited.rows held.book audited.held.decided.opening in
    let batch = one_batch new names.batch run.frames audited.frames held.batch audited.held.decided.messages in
    let entries = one_journal new journal run.entries audited.entries (record { held = run.logged inputs.was_known logged; are = run.are }) audited.are audited.logged in
    let finds : FindsInPlay run.rows run.frames run.entries audited.answers audited.rows_after_it found = rw (book, batch, entries) at audited.finds in
    let one = one_play (opening_play run.rows run.frames greatest) run.entries finds.core run.ran.core finds.plays run.ran.plays in
    let number : finds.core.state.board.committed ≡ run.committed = ap (λ (c : Play). c.state.board.committed) one ∙ run.ran.count in
    found_by_play run.rows run.frames run.entries audited.answers audited.rows_after_it found run.ran.core run.committed run.ran.plays run.ran.count
    (λ all. finds_of_held later new names run.rows audited.rows run.frames audited.frames audited.answers audited.rows_after_it found held audited.held
    (rw (book, batch) (finds.all (number ∙ all))))
    finds

-- the journal has no fault
no_journal_fault : (holds : Holding) (failing : Failing) (name : List ℕ) (entries : List Entry) (may_fail : Type 0) (fault : JobFault) → (failing.reading name → may_fail)
    → HoldsJournal holds name entries → IsJournalFault holds failing name fault → IsOfNoFile may_fail fault
no_journal_fault holds failing name entries may_fail (Journal (replay.Line n)) may held h =
    absurd (no_wrong_line entries (journal_text entries) n held.are refl (h (journal_text entries) held.held))
no_journal_fault holds failing name entries may_fail (Journal (replay.Unlogged n)) may held h = absurd h
no_journal_fault holds failing name entries may_fail (Journal replay.OutOfMemory) may held h = inl tt
no_journal_fault holds failing name entries may_fail Unreadable may held h = inr (may (h (journal_text entries) held.held))
no_journal_fault holds failing name entries may_fail OutOfMemory may held h = inl tt
no_journal_fault holds failing name entries may_fail Unwritable may held h = absurd h
no_journal_fault holds failing name entries may_fail InUse may held h = absurd h
no_journal_fault holds failing name entries may_fail (Book fault) may held h = absurd h
no_journal_fault holds failing name entries may_fail (Batch fault) may held h = absurd h
no_journal_fault holds failing name entries may_fail (Text line) may held h = absurd h
no_journal_fault holds failing name entries may_fail (Bodies count) may held h = absurd h

-- and is played
no_playing_fault : (holds : Holding) (names : Names) (journal : List ℕ) (rows : Rows) (frames : List Frame) (entries : List Entry) (core : Play) (may_fail : Type 0) (fault : JobFault)
    → HoldsRun holds names rows frames → HoldsJournal holds journal entries → Plays (opening_play rows frames greatest) entries core
    → IsPlayingFault holds names journal fault → IsOfNoFile may_fail fault
no_playing_fault holds names journal rows frames entries core may_fail (Journal (replay.Unlogged n)) held log plays h =
    let book = one_book holds names.book rows h.rows held.book h.opening in
    let batch = one_batch holds names.batch frames h.frames held.batch h.messages in
    let same = one_journal holds journal entries h.entries log h.are h.logged in
    let first : IsFirstUnlogged (opening_play rows frames greatest) entries n = rw (book, batch, same) at h.first in
    absurd (all_decided (opening_play rows frames greatest) entries core n plays first)
no_playing_fault holds names journal rows frames entries core may_fail (Journal (replay.Line n)) held log plays h = absurd h
no_playing_fault holds names journal rows frames entries core may_fail (Journal replay.OutOfMemory) held log plays h = inl tt
no_playing_fault holds names journal rows frames entries core may_fail Unreadable held log plays h = absurd h
no_playing_fault holds names journal rows frames entries core may_fail Unwritable held log plays h = absurd h
no_playing_fault holds names journal rows frames entries core may_fail InUse held log plays h = absurd h
no_playing_fault holds names journal rows frames entries core may_fail (Book fault) held log plays h = absurd h
no_playing_fault holds names journal rows frames entries core may_fail (Batch fault) held log plays h = absurd h
no_playing_fault holds names journal rows frames entries core may_fail (Text line) held log plays h = absurd h
no_playing_fault holds names journal rows frames entries core may_fail (Bodies count) held log plays h = absurd h
no_playing_fault holds names journal rows frames entries core may_fail OutOfMemory held log plays h = absurd h

pub no_fault_by_journal : (known : Type 0) (old new : Holding) (failing : Failing) (names : Names) (journal : List ℕ) (count : _) (fault : JobFault)
    → AreInputsKept known old new names → names.replies ≢ journal → journal ≢ names.new_book → IsDecidedWithJournal known old new names journal count
    → IsJournalAuditingFault new failing names journal fault → IsOfNoFile (MayNotBeRead failing names ⊎ failing.reading journal) fault
no_fault_by_journal known old new failing names journal count fault inputs apart logged run =
    let held = held_by_journaled_run known old new names journal count run inputs apart in
    let log : HoldsJournal new journal run.entries = record { held = run.logged inputs.was_known logged; are = run.are } in
    let may_fail = MayNotBeRead failing names ⊎ failing.reading journal in
    no_fault_in_order new failing names run.rows run.frames may_fail (IsJournalFault new failing journal fault ⊎ IsPlayingFault new names journal fault) fault
    (of_these failing names (failing.reading journal)) held
    (λ behind. elim behind [
      | inl none ↦ no_journal_fault new failing journal run.entries may_fail fault (λ f. inr f) log none
      | inr unplayed ↦ no_playing_fault new names journal run.rows run.frames run.entries run.ran.core may_fail fault held log run.ran.plays unplayed
    ])
