-- Why an audit with a journal finds nothing.
use Rattle.std.specs.Prelude.{◌≡◌, ◌⊎◌, ℕ, List}
use Rattle.file_batch.specs.Words.{Failing, IsBatchOf, Names}
use Rattle.stm_journal_text.specs.Logged.{IsFirstUnlogged, greatest}
use Rattle.stm_journal_text.specs.Journal.{AreEntries, IsFirstWrongLine, journal_text}
use Rattle.stm_journal_text.specs.declared.entry.Entry.{Entry}
use Rattle.stm_journal_text.specs.declared.replay_fault.ReplayFault.{ReplayFault}
use Rattle.stm_journal_text.specs.declared.replay_fault.ReplayFault.TheVariants as replay
use Rattle.issuer_words.specs.Words.{Frame, Rows}
use Rattle.stm_core_laws.specs.Play.{opening_play}
use Rattle.app_jobs.specs.Decided.{Holding, IsBookOf}
use Rattle.app_jobs.specs.Faults.{IsFaultInOrder}
use Rattle.app_jobs.specs.declared.job_fault.JobFault.{JobFault}
use Rattle.app_jobs.specs.declared.job_fault.JobFault.TheVariants.{Unreadable, Journal, OutOfMemory}

-- what is held is no journal: its first wrong line; or memory ran out
abbrev pub IsWrongJournal : (List ℕ → Type 0) → ReplayFault → Type 0
IsWrongJournal held (replay.Line n) = (bytes : List ℕ) → held bytes → IsFirstWrongLine bytes n
IsWrongJournal held (replay.Unlogged n) = ⊥
IsWrongJournal held replay.OutOfMemory = Unit {0}

-- Why the file of this name gives no journal: its first wrong line; a call on it failed; or memory ran out.
abbrev pub IsJournalFault : Holding → Failing → List ℕ → JobFault → Type 0
IsJournalFault old failing name (Journal fault) = IsWrongJournal (old name) fault
IsJournalFault old failing name Unreadable = (bytes : List ℕ) → old name bytes → failing.reading name
IsJournalFault old failing name OutOfMemory = Unit {0}
IsJournalFault _ _ _ _ = ⊥

-- Played on the book and the batch, the entry of this number is the journal's first whose decision asks for a row that wasn't logged.
pub record IsUnloggedIn (old : Holding) (names : Names) (journal : List ℕ) (number : ℕ) : Type 0 where
  pub rows : Rows
  pub frames : List Frame
  pub entries : List Entry
  pub opening : IsBookOf old names.book rows
  pub messages : (bytes : List ℕ) → old names.batch bytes → IsBatchOf bytes frames
  pub are : AreEntries entries
  pub logged : (bytes : List ℕ) → old journal bytes → bytes ≡ journal_text entries
  pub first : IsFirstUnlogged (opening_play rows frames greatest) entries number

-- why the journal isn't played: a decision asks for a row that wasn't logged; or memory ran out
abbrev pub IsUnplayed : Holding → Names → List ℕ → ReplayFault → Type 0
IsUnplayed old names journal (replay.Unlogged n) = IsUnloggedIn old names journal n
IsUnplayed old names journal (replay.Line n) = ⊥
IsUnplayed old names journal replay.OutOfMemory = Unit {0}

abbrev pub IsPlayingFault : Holding → Names → List ℕ → JobFault → Type 0
IsPlayingFault old names journal (Journal fault) = IsUnplayed old names journal fault
IsPlayingFault _ _ _ _ = ⊥

-- Why an audit with a journal finds nothing: what an audit may lack, in its order; then the first wrong line of the journal, or a call
-- on its file that failed; then that it isn't played.
abbrev pub IsJournalAuditingFault : Holding → Failing → Names → List ℕ → JobFault → Type 0
IsJournalAuditingFault old failing names journal fault =
    IsFaultInOrder old failing names (IsJournalFault old failing journal fault ⊎ IsPlayingFault old names journal fault) fault
