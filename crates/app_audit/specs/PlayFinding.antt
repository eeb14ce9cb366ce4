-- What an audit against a journal finds.
use Rattle.std.specs.Prelude.{◌≡◌, ◌≢◌, List, length}
use Rattle.issuer_words.specs.Words.{Frame, ReplyBody, Rows, replies_to, rows_after}
use Rattle.stm_journal_text.specs.Words.{Plays, greatest}
use Rattle.stm_journal_text.specs.declared.entry.Entry.{Entry}
use Rattle.stm_core_laws.specs.Play.{Play, opening_play}
use Rattle.app_audit.specs.Finding.{Finds}
use Rattle.app_audit.specs.declared.audited.Audit.{Audit}
use Rattle.app_audit.specs.declared.audited.Audit.TheVariants.{CountDiffers}

-- Beside what the journal plays to: where it commits every body, these are the right replies and the right book; where
-- it doesn't, the number of replies differs.
pub record FindsInPlay (opening : Rows) (frames : List Frame) (entries : List Entry) (replies : List ReplyBody) (book : Rows) (found : Audit) : Type 0 where
  pub core : Play
  pub plays : Plays (opening_play opening frames greatest) entries core
  pub all : core.state.board.committed ≡ length frames → Finds replies book (replies_to opening frames) (rows_after opening frames) found
  pub fewer : core.state.board.committed ≢ length frames → found ≡ CountDiffers
