-- When a journal is at its end.
use Rattle.std.specs.Prelude.{◌≡◌, List, [], ◌∷◌, ◌++◌, ◌⊎◌, length}
use Rattle.stm_journal_text.specs.Words.{Answers, IsPlayed}
use Rattle.stm_journal_text.specs.declared.entry.Entry.{Entry}
use Rattle.stm_journal_text.specs.declared.core_answer.CoreAnswer.TheVariants.{Refused}
use Rattle.stm_core_laws.specs.Play.{Play}
use Rattle.stm_core_laws.specs.declared.core_fault.CoreFault.TheVariants.{Exhausted}

-- the last entry is answered that no incarnation or epoch is left
pub record EndsExhausted (core : Play) (entries : List Entry) : Type 0 where
  pub before : List Entry
  pub last : Entry
  pub mid : Play
  pub are : entries ≡ before ++ last ∷ []
  pub played : IsPlayed mid before
  pub exhausted : Answers mid last.seat last.event (Refused Exhausted) core

-- all is committed, or no incarnation or epoch is left
unfoldable pub IsFinished : Play → List Entry → Type 0
IsFinished core entries = (core.state.board.committed ≡ length core.state.frames) ⊎ EndsExhausted core entries
