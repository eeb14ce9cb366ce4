-- Faults of an audit's journal.
use Rattle.std.proofs.Common.{◌≡◌, ℕ, List, Result, Err, refl}
use Rattle.file_batch.specs.Words.{IsBatchOf, Names}
use Rattle.stm_journal_text.specs.Logged.{IsFirstUnlogged, greatest}
use Rattle.stm_journal_text.specs.Journal.{AreEntries, journal_text}
use Rattle.stm_journal_text.specs.declared.entry.Entry.{Entry}
use Rattle.stm_journal_text.specs.declared.replay_fault.ReplayFault.{ReplayFault}
use Rattle.stm_journal_text.specs.declared.replay_fault.ReplayFault.TheVariants as replay
use Rattle.issuer_words.specs.Words.{Frame, Rows}
use Rattle.stm_core_laws.specs.Play.{opening_play}
use Rattle.app_jobs.specs.Decided.{Holding, IsBookOf}
use Rattle.app_jobs.specs.JournalFaults.{IsUnplayed}

-- a journal that isn't played
pub unplayed : {T : Type 0} (old : Holding) (names : Names) (journal : List ℕ) (rows : Rows) (frames : List Frame) (entries : List Entry) (e : ReplayFault)
    → IsBookOf old names.book rows → ((bytes : List ℕ) → old names.batch bytes → IsBatchOf bytes frames)
    → AreEntries entries → ((bytes : List ℕ) → old journal bytes → bytes ≡ journal_text entries)
    → ((n : ℕ) → Path (Result T ReplayFault) (Err e) (Err (replay.Unlogged n)) → IsFirstUnlogged (opening_play rows frames greatest) entries n)
    → ((n : ℕ) → ¬ Path (Result T ReplayFault) (Err e) (Err (replay.Line n))) → IsUnplayed old names journal e
unplayed old names journal rows frames entries (replay.Unlogged n) opening messages are logged unlogged lines =
    record { rows = rows; frames = frames; entries = entries; opening = opening; messages = messages; are = are; logged = logged; first = unlogged n refl }
unplayed old names journal rows frames entries (replay.Line n) opening messages are logged unlogged lines = absurd (lines n refl)
unplayed old names journal rows frames entries replay.OutOfMemory opening messages are logged unlogged lines = tt
