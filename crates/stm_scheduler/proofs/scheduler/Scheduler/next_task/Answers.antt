use Rattle.std.proofs.Common.{◌≡◌, ℕ, length, refl, ap, sym, subst, arith}
use Rattle.stm_scheduler.proofs.Boards.{claimed-IsSound, idle_chosen}
use Rattle.stm_scheduler.proofs.Choices.{Chooses-allowed}
use Rattle.stm_scheduler.specs.contracts.scheduler.Scheduler.{the_view}
use Rattle.stm_scheduler.specs.Cursors.{Schedule, Chooses, IsAllowed}
use Rattle.stm_scheduler.specs.declared.task.Task.TheVariants as task
use Rattle.stm_scheduler.proofs.scheduler.Scheduler.next_task.Goals as goal

pub index_mut-requires : goal.index_mut-requires
index_mut-requires c =
    let s : Schedule = the_view c.self.inside in
    let chosen = c.choose-choice.ensures.chooses s.board (sym c.deref.ensures.value) refl in
    let ready = subst (IsAllowed s.board) c.in-Execute.is (Chooses-allowed s.board _ _ _ _ _ chosen) in
    let l = ready.0.0 in
    let many = c.self.inside.marks.ok.0 in
    omega arith

pub invariant_of-self : goal.invariant_of-self
invariant_of-self c =
    let s : Schedule = the_view c.self.inside in
    let chosen = c.choose-choice.ensures.chooses s.board (sym c.deref.ensures.value) refl in
    let ready = subst (IsAllowed s.board) c.in-Execute.is (Chooses-allowed s.board _ _ _ _ _ chosen) in
    let same = ap length c.deref.ensures.value in
    let e = c.choose-choice.ensures.execution in
    let v = c.choose-choice.ensures.validation in
    (claimed-IsSound s c.self.inside.firsts.items c.self.inside.nexts.items c.in-Execute.version.index c.index_mut.result.now c.choose-choice.result.execution c.choose-choice.result.validation c.self.invariant.0 ready.0 (omega arith) (omega arith), c.self.invariant.1)

pub returns-in_default : goal.returns-in_default
returns-in_default c =
    let s : Schedule = the_view c.self.inside in
    let chosen = idle_chosen s.board s.execution s.validation c.choose-choice.result.task c.choose-choice.result.execution c.choose-choice.result.validation (c.choose-choice.ensures.chooses s.board (sym c.deref.ensures.value) refl) c.in_default.not-Execute c.in_default.not-Validate in
    subst (λ (x : Schedule). (x.board.committed ≡ length x.board.marks → ⊥) × ((e : ℕ) × (v : ℕ) × Chooses x.board x.execution x.validation task.Idle e v) × (x ≡ x)) c.self.view_is
    (λ all. c.if-self-len.false (let len = c.len.ensures in let many = c.self.inside.marks.ok.0 in omega arith), (c.choose-choice.result.execution, c.choose-choice.result.validation, chosen), refl)
