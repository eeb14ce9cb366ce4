-- The words of journals and what they play to, from one place.
pub use Rattle.stm_core_laws.specs.declared.core_fault.CoreFault.{CoreFault}
pub use Rattle.stm_core_laws.specs.declared.limits.Limits.{Limits}
pub use Rattle.stm_journal_text.specs.Answers.{Answers, AnswersTo, FinishAnswers, FinishAnswersTo}
pub use Rattle.stm_journal_text.specs.Answers.{IsAnswerOfKind, IsNoFinish, entered, enters, stands}
pub use Rattle.stm_journal_text.specs.Logged.{IsFirstUnlogged, IsLogged, IsUndecided}
pub use Rattle.stm_journal_text.specs.Logged.{IsUnloggedEvent, greatest, log_rows}
pub use Rattle.stm_journal_text.specs.Marks.{Lacks}
pub use Rattle.stm_journal_text.specs.Plays.{EntryStep, Plays}
unfoldable pub use Rattle.stm_journal_text.specs.Plays.{IsPlayed}
pub use Rattle.stm_journal_text.specs.Texts.{IsEvent, IsIdentity, IsKey, IsVersion, event_text}
pub use Rattle.stm_journal_text.specs.Texts.{identity_text, key_text, version_text}
