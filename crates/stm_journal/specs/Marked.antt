-- A core that keeps no journal.
use Rattle.std.specs.Prelude.{◌≡◌, ℕ, Bool, refl}
use Rattle.std.specs.Coded.{Coded, code_by, coded×, coded_bool}
use Rattle.stm_core_laws.specs.Play.{Play}
use Rattle.stm_journal_text.specs.Answers.{Answers}
use Rattle.stm_journal_text.specs.declared.core_answer.CoreAnswer.{CoreAnswer}
use Rattle.stm_journal_text.specs.declared.event.Event.{Event}

-- a core, and whether its workers are to stop
pub record Marked : Type 0 where
  pub core : Play
  pub stopped : Bool

-- the core was asked an event at this seat and gave this answer
pub record IsMarkedStep (old new : Marked) (seat : ℕ) (event : Event) (answer : CoreAnswer) : Type 0 where
  pub answers : Answers old.core seat event answer new.core
  pub stopped : new.stopped ≡ old.stopped

-- how it is stored
abbrev pub marked_code : Coded Play → Coded Marked
marked_code core =
    code_by (Play × Bool) (coded× core coded_bool)
    (λ m. (m.core, m.stopped)) (λ p. record { core = p.0; stopped = p.1 }) (λ _. refl)
