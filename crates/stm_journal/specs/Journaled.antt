-- A core with its journal.
use Rattle.std.specs.Prelude.{◌≡◌, ℕ, Bool, List, ◌++◌, refl}
use Rattle.std.specs.Coded.{Coded, code_by, coded×, coded_list, coded_bool}
use Rattle.stm_journal_text.specs.Words.{AnswersTo, IsPlayed, entered}
use Rattle.stm_journal_text.specs.declared.core_answer.CoreAnswer.{CoreAnswer}
use Rattle.stm_journal_text.specs.declared.entry.Entry.{Entry}
use Rattle.stm_journal_text.specs.declared.event.Event.{Event}
use Rattle.stm_core_laws.specs.Play.{Play}

-- a core, what was asked of it, and whether its workers are to stop
pub record Journaled : Type 0 where
  pub core : Play
  pub entries : List Entry
  pub stopped : Bool

-- the core was asked an event at this seat and gave this answer, and what that enters was entered last
pub record IsJournalStep (old new : Journaled) (seat : ℕ) (event : Event) (answer : CoreAnswer) : Type 0 where
  pub played : IsPlayed old.core old.entries
  pub answers : AnswersTo old.core seat event answer new.core
  pub entries : new.entries ≡ old.entries ++ entered seat event answer
  pub stopped : new.stopped ≡ old.stopped

-- how it is stored
abbrev pub journaled_code : Coded Play → Coded Entry → Coded Journaled
journaled_code core entry =
    code_by (Play × (List Entry × Bool)) (coded× core (coded× (coded_list entry) coded_bool))
    (λ j. (j.core, (j.entries, j.stopped))) (λ p. record { core = p.0; entries = p.1.0; stopped = p.1.1 }) (λ _. refl)
