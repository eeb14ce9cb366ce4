use Rattle.std.proofs.Common.{◌≡◌, ◌≢◌, Bool, IsTrue, set, refl, sym, ap, ◌∙◌, subst, Some, Result, Ok, Err, arith}
use Rattle.std.proofs.lemmas.Bool.{false≢true}
use Rattle.std.proofs.lemmas.Result.{err_from_is_err_and}
use Rattle.issuer_rows.specs.Plan.{Writes}
use Rattle.stm_memory.specs.Entries.{Entries, AreReplaced, IsNewLocation}
use Rattle.stm_core_laws.specs.Words.{Finish, IsOfVersion, Play, PlayStep, State, slot}
use Rattle.stm_core_laws.specs.declared.core_fault.CoreFault.{CoreFault}
use Rattle.stm_core_laws.specs.declared.core_fault.CoreFault.TheVariants.{OtherReads, OutOfMemory, Exhausted}
use Rattle.stm_core.proofs.Steps.{at_slot, finish_step, not_of_version, of_version, play, sound_kept}
use Rattle.stm_core.specs.Sound.{IsSoundCore}
use Rattle.stm_core.specs.contracts.speculative.Core.{the_view}
use Rattle.stm_core.proofs.speculative.Core.finish_copy.Goals as goal
use Rattle.stm_core.proofs.speculative.Core.finish_copy.Goals.{After-index-slot, After-epoch, After-numbers-numbers, After-record-is_new, After-finished}
use Rattle.stm_core.proofs.speculative.Core.finish_copy.Goals.{else-epoch-self-via-then-epoch-self+else-puts_new_location, else-epoch-self-via-else-epoch-self}

-- the slot is that of the message
here : (c : After-index-slot) → c.index-slot.result.now ≡ slot (the_view c.self.inside).state c.args.version.index
here c =
    at_slot (the_view c.self.inside).state c.self.invariant.holds c.args.version.index c.index-slot.result.now
    (c.is_running.ensures.within c.if-not-is_running.false) c.index-slot.ensures

pub returns-then-not-has_logged : goal.returns-then-not-has_logged
returns-then-not-has_logged c =
    let is = here (goal.at.returns-then-not-has_logged c).After-index-slot in
    let not_of = not_of_version (the_view c.self.inside).state c.args.version c.args.execution.now c.index-slot.result.now c.reads.result.now is c.reads.ensures (λ logged. false≢true (sym c.if-not-has_logged.true ∙ c.has_logged.ensures.1 logged)) in
    record {
      step = subst (λ (p : Play). PlayStep p (Finish c.args.version c.args.execution.now (Err OtherReads)) p) c.self.view_is
          ((c.frame-frame.ensures.local, (c.is_running.ensures.running.0 c.if-not-is_running.false, not_of, refl)), (refl, refl));
    }

-- what is handed in is of the version
of : (c : After-epoch) → c.index-slot.result.now ≡ slot (the_view c.self.inside).state c.args.version.index → IsOfVersion (the_view c.self.inside).state c.args.version c.args.execution.now
of c is =
    of_version (the_view c.self.inside).state c.args.version c.args.execution.now c.deref.result.now c.frame-frame.result.now c.index-slot.result.now
    c.reads.result.now c.deref.ensures.value c.frame-frame.ensures.frame (c.is_at.ensures.0 c.if-not-is_at.false) is c.reads.ensures
    (c.has_logged.ensures.0 c.if-not-has_logged.false)

pub returns-then-puts_new_location : goal.returns-then-puts_new_location
returns-then-puts_new_location c =
    let at = goal.at.returns-then-puts_new_location c in
    let new = subst (IsNewLocation c.self.inside.memory.entries c.args.version.index) c.writes-writes.ensures (c.puts_new_location.ensures.0 c.if-puts_new_location.true) in
    record {
      step = subst (λ (p : Play). PlayStep p (Finish c.args.version c.args.execution.now (Err Exhausted)) p) c.self.view_is (
        (
          c.frame-frame.ensures.local,
          (c.is_running.ensures.running.0 c.if-not-is_running.false, of at.After-epoch (here at.After-index-slot), new, sym c.epoch.ensures ∙ c.if-epoch-self.true, refl),
        ),
        (refl, refl),
      );
    }

-- a new location takes no epoch that is not left
left : (c : After-numbers-numbers) → IsNewLocation c.self.inside.memory.entries c.args.version.index c.args.execution.now.writes → c.self.inside.scheduler.board.epoch ≢ c.self.inside.limits.epoch
left c =
    elim c.else-epoch-self.branch [
      | else-epoch-self-via-then-epoch-self+else-puts_new_location w ↦
          λ new. absurd (false≢true (sym w.if-puts_new_location.false ∙ w.puts_new_location.ensures.1 (subst (IsNewLocation c.self.inside.memory.entries c.args.version.index) (sym c.writes-writes.ensures) new)))
      | else-epoch-self-via-else-epoch-self w ↦ λ new same. w.if-epoch-self.false (c.epoch.ensures ∙ same)
    ]

pub returns-in_err-reserve : goal.returns-in_err-reserve
returns-in_err-reserve c =
    let s : State = (the_view c.self.inside).state in
    let at = goal.at.returns-in_err-reserve c in
    let left_for = left at.After-numbers-numbers in
    let same : record s { entries = c.reserve.new.self.entries } ≡ s = ap (λ (es : Entries). record s { entries = es }) c.in_err-reserve.ensures.entries in
    let fault = err_from_is_err_and c.from_residual.result c.from_residual.ensures.1 in
    let unchanged : Play = play (record s { entries = c.reserve.new.self.entries }) c.self.inside.scheduler.execution c.self.inside.scheduler.validation in
    let step : PlayStep (the_view c.self.inside) (Finish c.args.version c.args.execution.now (Err OutOfMemory)) unchanged = (
      (
        c.frame-frame.ensures.local,
        (c.is_running.ensures.running.0 c.if-not-is_running.false, of at.After-epoch (here at.After-index-slot), (λ exhausted. left_for exhausted.0 exhausted.1), same),
      ),
      (refl, refl),
    ) in
    record {
      step = subst (λ (answer : Result Bool CoreFault). PlayStep c.args.self.now (Finish c.args.version c.args.execution.now answer) unchanged) (sym (fault.1 ∙ ap Err fault.2))
          (subst (λ (p : Play). PlayStep p (Finish c.args.version c.args.execution.now (Err OutOfMemory)) unchanged) c.self.view_is step);
    }

pub invariant_of-self : goal.invariant_of-self
invariant_of-self c =
    subst IsSoundCore (sym (ap (λ (es : Entries). record (the_view c.self.inside).state { entries = es }) c.in_err-reserve.ensures.entries)) c.self.invariant

-- whether it has a new location is told of the entries before
told : (c : After-record-is_new) → (IsTrue c.record-is_new.result → IsNewLocation c.self.inside.memory.entries c.args.version.index c.args.execution.now.writes) × (IsNewLocation c.self.inside.memory.entries c.args.version.index c.args.execution.now.writes → IsTrue c.record-is_new.result)
told c =
    subst (λ (writes : Writes). (IsTrue c.record-is_new.result → IsNewLocation c.self.inside.memory.entries c.args.version.index writes) × (IsNewLocation c.self.inside.memory.entries c.args.version.index writes → IsTrue c.record-is_new.result)) c.writes-writes.ensures
    (subst (λ (entries : Entries). (IsTrue c.record-is_new.result → IsNewLocation entries c.args.version.index c.writes-writes.result.now) × (IsNewLocation entries c.args.version.index c.writes-writes.result.now → IsTrue c.record-is_new.result)) c.in_ok-reserve.ensures.entries c.record-is_new.ensures.new)

pub finished-requires-clause-epoch : goal.finished-requires-clause-epoch
finished-requires-clause-epoch c t =
    let at = goal.at.finished-requires-clause-epoch c in
    let more = left at.After-numbers-numbers ((told at.After-record-is_new).0 t) in
    omega arith

abbrev after : After-finished → Play
after c =
    play (record (the_view c.self.inside).state {
      board = c.finished.new.self.board;
      entries = c.record-is_new.new.self.entries;
      slots = set c.self.inside.slots.items c.args.version.index c.finish.new.self;
    }) c.finished.new.self.execution c.finished.new.self.validation

finishes : (c : After-finished) → IsOfVersion (the_view c.self.inside).state c.args.version c.args.execution.now
    → (IsNewLocation c.self.inside.memory.entries c.args.version.index c.args.execution.now.writes → c.self.inside.scheduler.board.epoch ≢ c.self.inside.limits.epoch)
    → (IsTrue c.record-is_new.result → IsNewLocation c.self.inside.memory.entries c.args.version.index c.args.execution.now.writes) × (IsNewLocation c.self.inside.memory.entries c.args.version.index c.args.execution.now.writes → IsTrue c.record-is_new.result)
    → PlayStep (the_view c.self.inside) (Finish c.args.version c.args.execution.now (Ok c.finished.result)) (after c)
finishes c of_version left_for is_new =
    let s : State = (the_view c.self.inside).state in
    let entries : Entries = c.record-is_new.new.self.entries in
    let replaced : AreReplaced c.args.version c.args.execution.now.writes s.entries entries =
    subst (λ (ws : Writes). AreReplaced c.args.version ws s.entries entries) c.writes-writes.ensures (subst (λ (es : Entries). AreReplaced c.args.version c.writes-writes.result.now es entries) c.in_ok-reserve.ensures.entries c.record-is_new.ensures.replaced) in
    finish_step s c.self.inside.scheduler.execution c.self.inside.scheduler.validation c.args.version c.args.execution.now c.record-is_new.result c.finished.result
    entries c.finished.new.self c.index_mut-slot.result.now c.finish.new.self c.frame-frame.ensures.local (c.is_running.ensures.running.0 c.if-not-is_running.false) of_version
    (at_slot s c.self.invariant.holds c.args.version.index c.index_mut-slot.result.now (c.is_running.ensures.within c.if-not-is_running.false) c.index_mut-slot.ensures.value)
    replaced is_new.0 is_new.1 left_for c.finished.ensures.board c.finished.ensures.execution c.finished.ensures.validation c.finished.ensures.handed_out
    (c.finish.ensures ∙ ap (λ r. record c.index_mut-slot.result.now { reply = Some r }) c.reply.ensures)

pub invariant_of-self-2 : goal.invariant_of-self-2
invariant_of-self-2 c =
    let at = goal.at.invariant_of-self-2 c in
    sound_kept (the_view c.self.inside) (Finish c.args.version c.args.execution.now (Ok c.finished.result)) (after at.After-finished) c.self.invariant
    (finishes at.After-finished (of at.After-epoch (here at.After-index-slot)) (left at.After-numbers-numbers) (told at.After-record-is_new))

pub returns : goal.returns
returns c =
    let at = goal.at.returns c in
    record {
      step = subst (λ (p : Play). PlayStep p (Finish c.args.version c.args.execution.now (Ok c.finished.result)) (after at.After-finished)) c.self.view_is
          (finishes at.After-finished (of at.After-epoch (here at.After-index-slot)) (left at.After-numbers-numbers) (told at.After-record-is_new));
    }
