-- A call with its answer leads a core to one core.
use Rattle.std.proofs.Common.{◌≡◌, ℕ, ◌+◌, ◌≤◌, min, List, inl, inr, sym, ap, ◌∙◌, subst, false, Ok, arith}
use Rattle.stm_scheduler.proofs.Choices.{choice-unique}
use Rattle.stm_scheduler.specs.Cursors.{Claims, IsLoweredToWaiting, Schedule}
use Rattle.stm_core_laws.specs.Words.{Block, Call, Claim, End, Finish}
use Rattle.stm_core_laws.specs.Words.{MessageProgress, Step, Task}
use Rattle.stm_core_laws.specs.declared.validation.Validation.{Validation}
use Rattle.stm_scheduler.specs.declared.task.Task.TheVariants.{Execute, Validate, Idle, Done}
use Rattle.stm_core_laws.proofs.Unique.{unique-Step, one_validation}
use Rattle.stm_core_laws.specs.Play.{Play, PlayStep, MoveCursors, StandStill, schedule}

-- a core is its state, and where its cursors stand
pub same_play : (a b : Play) → a.state ≡ b.state → a.execution ≡ b.execution → a.validation ≡ b.validation → a ≡ b
same_play a b state execution validation = λ i. record { state = state i; execution = execution i; validation = validation i }

-- a core that is left as it was
pub same_still : (old new : Play) → new.state ≡ old.state → StandStill old new → new ≡ old
same_still old new state still = same_play new old state still.0 still.1

-- the cursors stand alike
abbrev SameCursors : Play → Play → Type 0
SameCursors a b = (a.execution ≡ b.execution) × (a.validation ≡ b.validation)

both_still : (old a b : Play) → StandStill old a → StandStill old b → SameCursors a b
both_still old a b x y = (x.0 ∙ sym y.0, x.1 ∙ sym y.1)

both_same : (old a b : Play) → schedule a ≡ schedule old → schedule b ≡ schedule old → SameCursors a b
both_same old a b x y = (ap (λ (s : Schedule). s.execution) (x ∙ sym y), ap (λ (s : Schedule). s.validation) (x ∙ sym y))

claimed_alike : (old : Play) (task : Task) (a b : Play) → Claims (schedule old) task (schedule a) → Claims (schedule old) task (schedule b) → SameCursors a b
claimed_alike old Done a b x y = both_same old a b x.1 y.1
claimed_alike old (Execute v) a b x y =
    let one = choice-unique old.state.board old.execution old.validation (Execute v) a.execution a.validation x.1 (Execute v) b.execution b.validation y.1 in
    (one.1, one.2)
claimed_alike old (Validate v) a b x y =
    let one = choice-unique old.state.board old.execution old.validation (Validate v) a.execution a.validation x.1 (Validate v) b.execution b.validation y.1 in
    (one.1, one.2)
claimed_alike old Idle a b x y = both_same old a b x.2 y.2

-- a cursor is lowered to one place
lowered_alike : (marks : List MessageProgress) (i before a b : ℕ) → IsLoweredToWaiting marks i before a → IsLoweredToWaiting marks i before b → a ≡ b
lowered_alike marks i before a b x y =
    let under : a ≤ b = elim y.2 [ inl stays ↦ subst (λ (n : ℕ). a ≤ n) (sym stays) x.0 | inr waits ↦ x.1 b waits ] in
    let over : b ≤ a = elim x.2 [ inl stays ↦ subst (λ (n : ℕ). b ≤ n) (sym stays) y.0 | inr waits ↦ y.1 a waits ] in
    omega arith

moved_alike : (old : Play) (call : Call) (a b : Play) → Step old.state call a.state → MoveCursors old call a → MoveCursors old call b → SameCursors a b
moved_alike old (Claim task) a b step x y = claimed_alike old task a b x y
moved_alike old (Block v on (Ok u)) a b step x y =
    elim step.2 [
      | inl waits ↦ (x.0 waits.0 ∙ sym (y.0 waits.0), x.2 ∙ sym y.2)
      | inr goes ↦ (x.1 goes.0 ∙ sym (y.1 goes.0), x.2 ∙ sym y.2)
    ]
moved_alike old (Finish v e (Ok handed)) a b step x y =
    let execution = lowered_alike old.state.board.marks v.index old.execution a.execution b.execution x.0 y.0 in
    elim step.1.2.2 [
      | inl located ↦ (execution, (x.1 located.0).1 ∙ sym (y.1 located.0).1)
      | inr without ↦ (execution, (x.2 without.0).1 ∙ sym (y.2 without.0).1)
    ]
moved_alike old (End seat (Ok false)) a b step x y =
    let validations : x.0 ≡ y.0 = one_validation old.state seat x.0 y.0 x.1 y.1 in (
      x.2 ∙ ap (λ (c : Validation). min old.execution c.version.index) validations ∙ sym y.2,
      x.3 ∙ ap (λ (c : Validation). min old.validation (c.version.index + 1)) validations ∙ sym y.3,
    )
moved_alike old call a b step x y = both_still old a b x y

-- a call with its answer leads to one core
pub one_call : (old : Play) (call : Call) (a b : Play) → PlayStep old call a → PlayStep old call b → a ≡ b
one_call old call a b x y =
    let cursors = moved_alike old call a b x.0 x.1 y.1 in
    same_play a b (unique-Step old.state call a.state b.state x.0 y.0) cursors.0 cursors.1
