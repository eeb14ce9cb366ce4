-- What an audit with a journal finds.
use Rattle.std.specs.Prelude.{◌≡◌, ℕ, List}
use Rattle.app_audit.specs.PlayFinding.{FindsInPlay}
use Rattle.app_audit.specs.declared.audited.Audit.{Audit}
use Rattle.stm_journal_text.specs.Journal.{AreEntries, journal_text}
use Rattle.stm_journal_text.specs.declared.entry.Entry.{Entry}
use Rattle.issuer_words.specs.Words.{Frame, ReplyBody, Rows}
use Rattle.file_batch.specs.Words.{IsThere, Names}
use Rattle.app_jobs.specs.Audited.{AreHeld}
use Rattle.app_jobs.specs.Decided.{Holding}

-- Replies and new book, as the files hold them, are compared with what the journal, as its file holds it, plays to.
pub record IsAuditedWithJournal (known : Type 0) (old : Holding) (names : Names) (journal : List ℕ) (found : Audit) : Type 0 where
  pub rows : Rows
  pub frames : List Frame
  pub answers : List ReplyBody
  pub rows_after_it : Rows
  pub entries : List Entry
  pub held : AreHeld known old names rows frames answers rows_after_it
  pub are : AreEntries entries
  pub journal_there : known → IsThere old journal
  pub logged : (bytes : List ℕ) → old journal bytes → bytes ≡ journal_text entries
  pub finds : FindsInPlay rows frames entries answers rows_after_it found
