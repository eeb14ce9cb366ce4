use Rattle.std.proofs.Common.{◌≡◌, ◌<◌, set, refl, sym, ◌∙◌, subst, Some, Ok, Err, length}
use Rattle.std.proofs.lemmas.Bool.{false≢true}
use Rattle.stm_core_laws.specs.Words.{ExecutionSlot, Play, PlayStep, ValidateOne, slot}
use Rattle.stm_core_laws.specs.Words.{validation_of}
use Rattle.stm_core_laws.specs.declared.core_fault.CoreFault.TheVariants.{Outdated}
use Rattle.stm_core.proofs.Steps.{as_called, at_seat, at_slot, before_end, validation_step, next_there, play, refused_as_called, sound_kept}
use Rattle.stm_core.specs.contracts.speculative.Core.{the_view}
use Rattle.stm_core.proofs.speculative.Core.validate_one.Goals as goal
use Rattle.stm_core.proofs.speculative.Core.validate_one.Goals.{After-is_open, After-index-slot, After-is_at_end-is_ended}

-- the seat has the validation that was found there
has : (c : After-is_open) → validation_of (the_view c.self.inside).state c.number-seat.result ≡ Some c.in-Some.validation
has c =
    at_seat (the_view c.self.inside).state c.self.invariant.holds c.number-seat.result c.index.result.now c.in-Some.validation
    c.number-seat.ensures.bound c.index.ensures c.in-Some.is

-- and the slot is that of its message
here : (c : After-index-slot) → c.index-slot.result.now ≡ slot (the_view c.self.inside).state c.in-Some.validation.version.index
here c =
    at_slot (the_view c.self.inside).state c.self.invariant.holds c.in-Some.validation.version.index c.index-slot.result.now
    (c.is_open.ensures.within c.if-not-is_open.false) c.index-slot.ensures

pub returns-then-not-is_open : goal.returns-then-not-is_open
returns-then-not-is_open c =
    let there = has (goal.at.returns-then-not-is_open c).After-is_open in
    let step : PlayStep (the_view c.self.inside) (ValidateOne c.number-seat.result (Err Outdated)) (the_view c.self.inside) = (
      (
        c.number-seat.ensures.bound,
        (
          (
            c.in-Some.validation,
            (there, sym c.is_at_end.ensures ∙ c.if-is_at_end.false),
            λ opened. false≢true (sym c.if-not-is_open.true ∙ c.is_open.ensures.opened.1 opened),
          ),
          refl,
        ),
      ),
      (refl, refl),
    ) in
    record { step = refused_as_called _ _ (λ seat. ValidateOne seat (Err Outdated)) _ _ c.self.view_is c.number-seat.ensures.value step }

pub origin_at-row-requires : goal.origin_at-row-requires
origin_at-row-requires c =
    let at = goal.at.origin_at-row-requires c in
    subst (λ (k : ExecutionSlot). c.in-Some.validation.place < length k.log) (sym (here at.After-index-slot))
    (next_there (the_view c.self.inside).state c.self.invariant.holds c.number-seat.result c.in-Some.validation (has at.After-is_open)
    (sym c.is_at_end.ensures ∙ c.if-is_at_end.false) (c.is_open.ensures.opened.0 c.if-not-is_open.false))

pub after_read-next-requires : goal.after_read-next-requires
after_read-next-requires c =
    before_end (the_view c.self.inside).state c.self.invariant.holds c.number-seat.result c.in-Some.validation
    (has (goal.at.after_read-next-requires c).After-is_open) (sym c.is_at_end.ensures ∙ c.if-is_at_end.false)

abbrev after : After-is_at_end-is_ended → Play
after c =
    play (record (the_view c.self.inside).state { validations = set c.self.inside.validations.items c.number-seat.result (Some c.after_read-next.result) })
    c.self.inside.scheduler.execution c.self.inside.scheduler.validation

goes_on : (c : After-is_at_end-is_ended) → validation_of (the_view c.self.inside).state c.number-seat.result ≡ Some c.in-Some.validation
    → c.index-slot.result.now ≡ slot (the_view c.self.inside).state c.in-Some.validation.version.index
    → PlayStep (the_view c.self.inside) (ValidateOne c.number-seat.result (Ok c.is_at_end-is_ended.result)) (after c)
goes_on c there is =
    rw c.is_at_end-is_ended.ensures
    (validation_step (the_view c.self.inside).state c.self.inside.scheduler.execution c.self.inside.scheduler.validation c.number-seat.result
    c.in-Some.validation c.after_read-next.result c.index-slot.result.now c.origin_at-row.result c.resolves_as-stays.result
    c.number-seat.ensures.bound there (sym c.is_at_end.ensures ∙ c.if-is_at_end.false) (c.is_open.ensures.opened.0 c.if-not-is_open.false)
    is c.origin_at-row.ensures c.resolves_as-stays.ensures.0 c.resolves_as-stays.ensures.1 c.after_read-next.ensures)

pub invariant_of-self : goal.invariant_of-self
invariant_of-self c =
    let at = goal.at.invariant_of-self c in
    sound_kept (the_view c.self.inside) (ValidateOne c.number-seat.result (Ok c.is_at_end-is_ended.result)) (after at.After-is_at_end-is_ended) c.self.invariant
    (goes_on at.After-is_at_end-is_ended (has at.After-is_open) (here at.After-index-slot))

pub returns : goal.returns
returns c =
    let at = goal.at.returns c in
    let step = goes_on at.After-is_at_end-is_ended (has at.After-is_open) (here at.After-index-slot) in
    record {
      step = as_called _ _ (after at.After-is_at_end-is_ended) (λ seat. ValidateOne seat (Ok c.is_at_end-is_ended.result)) _ _
          c.self.view_is c.number-seat.ensures.value step;
    }
