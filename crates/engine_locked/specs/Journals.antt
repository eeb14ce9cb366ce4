-- What the journal of a run plays to.
use Rattle.std.specs.Prelude.{◌≡◌, ℕ, List, ◌++◌}
use Rattle.issuer_words.specs.Words.{Frame, ReplyBody, Rows}
use Rattle.stm_core_laws.specs.Words.{Play, bounded}
use Rattle.stm_journal_text.specs.Words.{IsPlayed, Limits, Plays}
use Rattle.stm_journal_text.specs.declared.entry.Entry.{Entry}
use Rattle.stm_journal.specs.Finished.{IsFinished}
use Rattle.stm_core_laws.specs.Run.{committed_replies}

-- The entries play, from this opening state, to a core that has committed so many messages, all of them unless no incarnation or epoch
-- is left; and its committed replies begin the replies.
pub record IsJournalOf (start : Play) (entries : List Entry) (committed : ℕ) (replies : List ReplyBody) : Type 0 where
  pub core : Play
  pub plays : Plays start entries core
  pub count : core.state.board.committed ≡ committed
  pub rest : List ReplyBody
  pub begins : committed_replies core.state ++ rest ≡ replies
  pub finished : IsFinished core entries

-- From this opening state some run of a core committed so many messages, all of them unless no incarnation or epoch was left; and its
-- committed replies begin the replies.
abbrev pub AreCommitted : Play → ℕ → List ReplyBody → Type 0
AreCommitted start committed replies = (entries : List Entry) × IsJournalOf start entries committed replies

-- the core is of this book, these bodies and these limits
pub record IsCoreOf (opening : Rows) (bodies : List Frame) (limits : Limits) (core : Play) : Type 0 where
  pub opened : core.state.opening ≡ opening
  pub frames : core.state.frames ≡ bodies
  pub within : core.state.limits ≡ bounded limits

-- entries that play to this core, to its end, are such a journal
abbrev pub AreJournals : Play → Play → ℕ → List ReplyBody → Type 0
AreJournals start core committed replies = (entries : List Entry) → IsPlayed core entries → IsFinished core entries → IsJournalOf start entries committed replies

-- some entries play to this core, to its end
pub record IsSomeEnd (core : Play) : Type 0 where
  pub entries : List Entry
  pub played : IsPlayed core entries
  pub finished : IsFinished core entries
