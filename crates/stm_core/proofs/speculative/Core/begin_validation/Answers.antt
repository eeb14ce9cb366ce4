use Rattle.std.proofs.Common.{◌<◌, ℕ, false, set, ap₂, Some, Ok}
use Rattle.stm_core_laws.specs.Words.{Begin, Play, PlayStep}
use Rattle.stm_core_laws.specs.declared.validation.Validation.{Validation}
use Rattle.stm_core.proofs.Steps.{as_called, at_slot, begin_step, play, sound_kept}
use Rattle.stm_core.specs.contracts.speculative.Core.{the_view}
use Rattle.stm_core.proofs.speculative.Core.begin_validation.Goals as goal
use Rattle.stm_core.proofs.speculative.Core.begin_validation.Goals.{After-is_at_end-is_ended}

abbrev begun : After-is_at_end-is_ended → Validation
begun c = record { version = c.args.version; began = c.epoch.result; place = 0; reads = c.reads.result; failed = false }

abbrev after : After-is_at_end-is_ended → ℕ → Play
after c seat =
    play (record (the_view c.self.inside).state { validations = set c.self.inside.validations.items seat (Some (begun c)) })
    c.self.inside.scheduler.execution c.self.inside.scheduler.validation

begins : (c : After-is_at_end-is_ended) (seat : ℕ) → seat < 64 → PlayStep (the_view c.self.inside) (Begin seat c.args.version (Ok c.is_at_end-is_ended.result)) (after c seat)
begins c seat bound =
    rw c.is_at_end-is_ended.ensures
    (begin_step (the_view c.self.inside).state c.self.inside.scheduler.execution c.self.inside.scheduler.validation seat c.args.version
    c.index-slot.result.now (begun c) bound (c.is_open.ensures.opened.0 c.if-not-is_open.false)
    (at_slot (the_view c.self.inside).state c.self.invariant.holds c.args.version.index c.index-slot.result.now (c.is_open.ensures.within c.if-not-is_open.false) c.index-slot.ensures)
    (ap₂ (λ (e n : ℕ). record { version = c.args.version; began = e; place = 0; reads = n; failed = false }) c.epoch.ensures c.reads.ensures))

pub invariant_of-self : goal.invariant_of-self
invariant_of-self c =
    let at = (goal.at.invariant_of-self c).After-is_at_end-is_ended in
    sound_kept (the_view c.self.inside) (Begin c.number.result c.args.version (Ok c.is_at_end-is_ended.result)) (after at c.number.result) c.self.invariant
    (begins at c.number.result c.number.ensures.bound)

pub returns : goal.returns
returns c =
    let at = (goal.at.returns c).After-is_at_end-is_ended in
    record {
      step = as_called _ _ (after at c.number.result) (λ seat. Begin seat c.args.version (Ok c.is_at_end-is_ended.result)) _ _
          c.self.view_is c.number.ensures.value (begins at c.number.result c.number.ensures.bound);
    }
