use Rattle.std.proofs.Common.{◌≡◌, set, inl, refl, sym, ap, ◌∙◌, subst, Some, None, Result, Ok, Err}
use Rattle.std.proofs.lemmas.Result.{err_from_is_err_and}
use Rattle.std.specs.Option.{option_copied}
use Rattle.stm_memory.specs.Chains.{seen_of}
use Rattle.stm_core_laws.specs.Words.{ExecutionSlot, Play, PlayStep, Read, State, logged_in, slot}
use Rattle.stm_core_laws.specs.declared.core_fault.CoreFault.TheVariants.{OutOfMemory}
use Rattle.stm_core_laws.specs.declared.got.Got.TheVariants as got
use Rattle.stm_core.proofs.Steps.{at_slot, slot_back, not_in, read_step, play, sound_kept, unlogged}
use Rattle.stm_core.specs.Sound.{IsSoundCore}
use Rattle.stm_core.specs.Unread.{got_of}
use Rattle.stm_core.specs.declared.unread.Unread.{Unread}
use Rattle.stm_core.specs.contracts.speculative.Core.{the_view}
use Rattle.stm_core.proofs.speculative.Core.read_into.Goals as goal

pub returns-in-Some-clause-step : goal.returns-in-Some-clause-step
returns-in-Some-clause-step c =
    let s : State = (the_view c.self.inside).state in
    let here : c.index-slot.result.now ≡ slot s c.args.version.index = at_slot s c.self.invariant.holds c.args.version.index c.index-slot.result.now (c.is_running.ensures.within c.if-not-is_running.false) c.index-slot.ensures in
    let logged : logged_in (slot s c.args.version.index).log c.args.row.now ≡ Some c.in-Some.logged.now = ap (λ (k : ExecutionSlot). logged_in k.log c.args.row.now) (sym here) ∙ sym c.logged.ensures.value ∙ ap option_copied c.in-Some.is in
    subst (λ (p : Play). PlayStep p (Read c.args.version c.args.row.now (Ok (got.Row c.in-Some.logged.now))) p) c.self.view_is
    ((c.is_running.ensures.running.0 c.if-not-is_running.false, inl (logged, refl)), (refl, refl))

-- it is not logged yet
none_there : (c : goal.After-index_mut-slot) → logged_in (slot (the_view c.self.inside).state c.args.version.index).log c.args.row.now ≡ None
none_there c =
    unlogged (the_view c.self.inside).state c.self.invariant.holds c.args.version c.args.row.now c.index-slot.result.now (option_copied c.logged.result) (c.is_running.ensures.within c.if-not-is_running.false) c.index-slot.ensures c.logged.ensures.value (ap option_copied c.in_default.is)

pub log-requires-clause-absent : goal.log-requires-clause-absent
log-requires-clause-absent c =
    let s : State = (the_view c.self.inside).state in
    not_in c.index_mut-slot.result.now.log c.args.row.now (ap (λ (k : ExecutionSlot). logged_in k.log c.args.row.now) (at_slot s c.self.invariant.holds c.args.version.index c.index_mut-slot.result.now (c.is_running.ensures.within c.if-not-is_running.false) c.index_mut-slot.ensures.value) ∙ none_there c)

abbrev after : goal.In_ok-log-in-Ok → Play
after c = play (record (the_view c.self.inside).state { slots = set c.self.inside.slots.items c.args.version.index c.log.new.self }) c.self.inside.scheduler.execution c.self.inside.scheduler.validation

step_there : (c : goal.In_ok-log-in-Ok) → PlayStep (the_view c.self.inside) (Read c.args.version c.args.row.now (Ok (got.Row c.seen_into.new.value))) (after c)
step_there c =
    let s : State = (the_view c.self.inside).state in
    let within = c.is_running.ensures.within c.if-not-is_running.false in
    let here = at_slot s c.self.invariant.holds c.args.version.index c.index_mut-slot.result.now within c.index_mut-slot.ensures.value in (
      read_step s c.self.invariant.holds c.args.version c.args.row.now (seen_of (option_copied c.look-number.result.0)) (record { origin = c.in-Ok.origin; value = c.seen_into.new.value }) c.index_mut-slot.result.now c.log.new.self
          (c.is_running.ensures.running.0 c.if-not-is_running.false) within c.index_mut-slot.ensures.value
          (ap (λ (k : ExecutionSlot). logged_in k.log c.args.row.now) here ∙ unlogged s c.self.invariant.holds c.args.version c.args.row.now c.index-slot.result.now (option_copied c.logged.result) within c.index-slot.ensures c.logged.ensures.value (ap option_copied c.in_default.is))
          c.look-number.ensures.seen (c.in-Ok.ensures.ok) c.in_ok-log-in-Ok.ensures.ok,
      (refl, refl),
    )

pub invariant_of-self-in-Ok : goal.invariant_of-self-in-Ok
invariant_of-self-in-Ok c = sound_kept (the_view c.self.inside) (Read c.args.version c.args.row.now (Ok (got.Row c.seen_into.new.value))) (after c) c.self.invariant (step_there c)

pub returns-in_ok-log-in-Ok-clause-step : goal.returns-in_ok-log-in-Ok-clause-step
returns-in_ok-log-in-Ok-clause-step c =
    subst (λ (p : Play). PlayStep p (Read c.args.version c.args.row.now (Ok (got.Row c.seen_into.new.value))) (after c)) c.self.view_is (step_there c)

abbrev unchanged : goal.After-from_residual → Play
unchanged c = play (record (the_view c.self.inside).state { slots = set c.self.inside.slots.items c.args.version.index c.log.new.self }) c.self.inside.scheduler.execution c.self.inside.scheduler.validation

pub returns-in_err-log-in-Ok-clause-step : goal.returns-in_err-log-in-Ok-clause-step
returns-in_err-log-in-Ok-clause-step c =
    let s : State = (the_view c.self.inside).state in
    let within = c.is_running.ensures.within c.if-not-is_running.false in
    let none = unlogged s c.self.invariant.holds c.args.version c.args.row.now c.index-slot.result.now (option_copied c.logged.result) within c.index-slot.ensures c.logged.ensures.value (ap option_copied c.in_default.is) in
    let back = slot_back s c.args.version.index c.index_mut-slot.result.now c.log.new.self c.index_mut-slot.ensures.value c.in_err-log-in-Ok.ensures.err in
    let fault = err_from_is_err_and c.from_residual.result c.from_residual.ensures.1 in
    let step : PlayStep (the_view c.self.inside) (Read c.args.version c.args.row.now (Err OutOfMemory)) (unchanged c) =
    ((c.is_running.ensures.running.0 c.if-not-is_running.false, ((seen_of (option_copied c.look-number.result.0)), (record { origin = c.in-Ok.origin; value = c.seen_into.new.value }), (none, c.look-number.ensures.seen), c.in-Ok.ensures.ok), back), (refl, refl)) in
    subst (λ (answer : Result (Unit {0}) Unread). PlayStep c.args.self.now (Read c.args.version c.args.row.now (got_of answer c.seen_into.new.value)) (unchanged c)) (sym (fault.1 ∙ ap Err fault.2))
    (subst (λ (p : Play). PlayStep p (Read c.args.version c.args.row.now (Err OutOfMemory)) (unchanged c)) c.self.view_is step)

pub invariant_of-self : goal.invariant_of-self
invariant_of-self c =
    let s : State = (the_view c.self.inside).state in
    let back : record s { slots = set s.slots c.args.version.index c.log.new.self } ≡ s = slot_back s c.args.version.index c.index_mut-slot.result.now c.log.new.self c.index_mut-slot.ensures.value c.in_err-log-in-Ok.ensures.err in
    subst IsSoundCore (sym back) c.self.invariant
