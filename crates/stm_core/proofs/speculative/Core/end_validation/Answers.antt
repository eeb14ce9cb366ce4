use Rattle.std.proofs.Common.{◌≡◌, true, false, set, refl, sym, ◌∙◌, Some, None, Ok, Err, arith}
use Rattle.std.proofs.lemmas.Bool.{false≢true}
use Rattle.stm_core_laws.specs.Words.{CanAbort, End, Play, PlayStep, validation_of}
use Rattle.stm_core_laws.specs.declared.core_fault.CoreFault.TheVariants.{Outdated, Exhausted}
use Rattle.stm_core.proofs.Steps.{as_called, at_seat, fail_step, pass_step, play, refused_as_called, sound_kept}
use Rattle.stm_core.specs.contracts.speculative.Core.{the_view}
use Rattle.stm_core.proofs.speculative.Core.end_validation.Goals as goal
use Rattle.stm_core.proofs.speculative.Core.end_validation.Goals.{After-is_open, After-passed, After-clear}
use Rattle.stm_core.proofs.speculative.Core.end_validation.Goals.{then-validation-self-via-then-validation-self, then-validation-self-via-else-validation-self+then-epoch-self}

-- the seat has the validation that was found there
has : (c : After-is_open) → validation_of (the_view c.self.inside).state c.number-seat.result ≡ Some c.in-Some.validation
has c =
    at_seat (the_view c.self.inside).state c.self.invariant.holds c.number-seat.result c.index.result.now c.in-Some.validation
    c.number-seat.ensures.bound c.index.ensures c.in-Some.is

pub returns-then-not-is_open : goal.returns-then-not-is_open
returns-then-not-is_open c =
    let there = has (goal.at.returns-then-not-is_open c).After-is_open in
    let step : PlayStep (the_view c.self.inside) (End c.number-seat.result (Err Outdated)) (the_view c.self.inside) = (
      (
        c.number-seat.ensures.bound,
        (
          (
            c.in-Some.validation,
            (there, sym c.is_at_end.ensures ∙ c.if-not-is_at_end.false),
            λ opened. false≢true (sym c.if-not-is_open.true ∙ c.is_open.ensures.opened.1 opened),
          ),
          refl,
        ),
      ),
      (refl, refl),
    ) in
    record { step = refused_as_called _ _ (λ seat. End seat (Err Outdated)) _ _ c.self.view_is c.number-seat.ensures.value step }

abbrev passed : After-passed → Play
passed c =
    play (record (the_view c.self.inside).state { board = c.passed.new.self.board; validations = set c.self.inside.validations.items c.number-seat.result None })
    c.passed.new.self.execution c.passed.new.self.validation

passes : (c : After-passed) → validation_of (the_view c.self.inside).state c.number-seat.result ≡ Some c.in-Some.validation
    → PlayStep (the_view c.self.inside) (End c.number-seat.result (Ok true)) (passed c)
passes c there =
    pass_step (the_view c.self.inside).state c.self.inside.scheduler.execution c.self.inside.scheduler.validation c.number-seat.result
    c.in-Some.validation c.passed.new.self c.number-seat.ensures.bound there (sym c.is_at_end.ensures ∙ c.if-not-is_at_end.false)
    (c.is_open.ensures.opened.0 c.if-not-is_open.false) c.if-not-validation.true c.passed.ensures

pub invariant_of-self : goal.invariant_of-self
invariant_of-self c =
    let at = goal.at.invariant_of-self c in
    sound_kept (the_view c.self.inside) (End c.number-seat.result (Ok true)) (passed at.After-passed) c.self.invariant (passes at.After-passed (has at.After-is_open))

pub returns-then-not-validation : goal.returns-then-not-validation
returns-then-not-validation c =
    let at = goal.at.returns-then-not-validation c in
    let step = passes at.After-passed (has at.After-is_open) in
    record { step = as_called _ _ (passed at.After-passed) (λ seat. End seat (Ok true)) _ _ c.self.view_is c.number-seat.ensures.value step }

pub returns-then-validation-self : goal.returns-then-validation-self
returns-then-validation-self c =
    let there = has (goal.at.returns-then-validation-self c).After-is_open in
    let opened = c.is_open.ensures.opened.0 c.if-not-is_open.false in
    let exhausted : ¬ CanAbort (the_view c.self.inside).state c.in-Some.validation =
    elim c.then-validation-self.branch [
      | then-validation-self-via-then-validation-self w ↦ λ can. can.0 (opened.0.1 ∙ w.if-validation-self.true)
      | then-validation-self-via-else-validation-self+then-epoch-self w ↦ λ can. can.1 (sym w.epoch.ensures ∙ w.if-epoch-self.true)
    ] in
    let step : PlayStep (the_view c.self.inside) (End c.number-seat.result (Err Exhausted)) (the_view c.self.inside) = (
      (
        c.number-seat.ensures.bound,
        (
          (
            c.in-Some.validation,
            (there, sym c.is_at_end.ensures ∙ c.if-not-is_at_end.false),
            opened,
            c.if-not-validation.false,
            exhausted,
          ),
          refl,
        ),
      ),
      (refl, refl),
    ) in
    record { step = refused_as_called _ _ (λ seat. End seat (Err Exhausted)) _ _ c.self.view_is c.number-seat.ensures.value step }

pub abort-requires-clause-left : goal.abort-requires-clause-left
abort-requires-clause-left c =
    let same = (c.is_open.ensures.opened.0 c.if-not-is_open.false).0.1 in
    let bound = (c.self.invariant.holds.messages c.in-Some.validation.version.index).incarnation in
    let left = c.if-validation-self.false in
    omega arith

abbrev failed : After-clear → Play
failed c =
    play (record (the_view c.self.inside).state {
      board = c.abort.new.self.board;
      entries = c.to_estimates.new.self.entries;
      slots = set c.self.inside.slots.items c.in-Some.validation.version.index c.clear.new.self;
      validations = set c.self.inside.validations.items c.number-seat.result None;
    }) c.abort.new.self.execution c.abort.new.self.validation

fails : (c : After-clear) → validation_of (the_view c.self.inside).state c.number-seat.result ≡ Some c.in-Some.validation
    → PlayStep (the_view c.self.inside) (End c.number-seat.result (Ok false)) (failed c)
fails c there =
    fail_step (the_view c.self.inside).state c.self.inside.scheduler.execution c.self.inside.scheduler.validation c.number-seat.result
    c.in-Some.validation c.to_estimates.new.self.entries c.abort.new.self c.clear.new.self c.number-seat.ensures.bound there
    (sym c.is_at_end.ensures ∙ c.if-not-is_at_end.false) (c.is_open.ensures.opened.0 c.if-not-is_open.false) c.if-not-validation.false
    c.if-validation-self.false (λ same. c.if-epoch-self.false (c.epoch.ensures ∙ same)) c.to_estimates.ensures c.abort.ensures c.clear.ensures

pub invariant_of-self-2 : goal.invariant_of-self-2
invariant_of-self-2 c =
    let at = goal.at.invariant_of-self-2 c in
    sound_kept (the_view c.self.inside) (End c.number-seat.result (Ok false)) (failed at.After-clear) c.self.invariant (fails at.After-clear (has at.After-is_open))

pub returns : goal.returns
returns c =
    let at = goal.at.returns c in
    let step = fails at.After-clear (has at.After-is_open) in
    record { step = as_called _ _ (failed at.After-clear) (λ seat. End seat (Ok false)) _ _ c.self.view_is c.number-seat.ensures.value step }
