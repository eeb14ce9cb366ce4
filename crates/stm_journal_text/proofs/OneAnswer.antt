-- A call of a core has one answer, but where memory ran out.
use Rattle.std.proofs.Common.{◌≡◌, ◌≢◌, ℕ, inl, inr, refl, sym, ap, ◌∙◌, subst, Option, Some, Result, Ok, Err, Bool, true, false, rules}
use Rattle.std.proofs.lemmas.Bool.{false≢true}
use Rattle.std.proofs.lemmas.Option.{none-some, same_Some}
use Rattle.issuer_words.specs.Words.{RowKey, RowVal}
use Rattle.stm_scheduler.specs.Words.{Claims, IsOpen}
use Rattle.stm_core_laws.specs.Words.{BeginStep, BlockStep, CanAbort, CommitStep, EndStep}
use Rattle.stm_core_laws.specs.Words.{HasValidation, Play, ReadStep, Seen, State, Task, Validated}
use Rattle.stm_core_laws.specs.Words.{ValidationStep, Version, is_at_end, logged_of, schedule}
use Rattle.stm_core_laws.specs.Words.{shelf}
use Rattle.stm_core_laws.specs.declared.core_fault.CoreFault.{CoreFault}
use Rattle.stm_core_laws.specs.declared.got.Got.{Got}
use Rattle.stm_core_laws.specs.declared.logged.Logged.{Logged}
use Rattle.stm_core_laws.specs.declared.validation.Validation.{Validation}
use Rattle.stm_memory.specs.declared.seen.Seen.TheVariants as seen
use Rattle.stm_scheduler.proofs.Choices.{choice-unique}
use Rattle.stm_scheduler.specs.declared.task.Task.TheVariants.{Execute, Validate, Idle, Done}
use Rattle.stm_core_laws.proofs.Unique.{Resolves-unique, Validated-unique, one_validation}
use Rattle.stm_core_laws.specs.declared.core_fault.CoreFault.TheVariants.{NotRunning, Outdated, OutOfMemory, Exhausted}
use Rattle.stm_core_laws.specs.declared.got.Got.TheVariants as got

-- one task is chosen
pub one_task : (old : Play) (a b : Task) (t w : Play) → Claims (schedule old) a (schedule t) → Claims (schedule old) b (schedule w) → a ≡ b
one_task old Done Done t w x y = refl
one_task old (Execute v) (Execute u) t w x y =
    (choice-unique old.state.board old.execution old.validation (Execute v) t.execution t.validation x.1 (Execute u) w.execution w.validation y.1).0
one_task old (Execute v) (Validate u) t w x y =
    (choice-unique old.state.board old.execution old.validation (Execute v) t.execution t.validation x.1 (Validate u) w.execution w.validation y.1).0
one_task old (Execute v) Idle t w x y =
    (choice-unique old.state.board old.execution old.validation (Execute v) t.execution t.validation x.1 Idle y.1.0 y.1.1 y.1.2).0
one_task old (Validate v) (Execute u) t w x y =
    (choice-unique old.state.board old.execution old.validation (Validate v) t.execution t.validation x.1 (Execute u) w.execution w.validation y.1).0
one_task old (Validate v) (Validate u) t w x y =
    (choice-unique old.state.board old.execution old.validation (Validate v) t.execution t.validation x.1 (Validate u) w.execution w.validation y.1).0
one_task old (Validate v) Idle t w x y =
    (choice-unique old.state.board old.execution old.validation (Validate v) t.execution t.validation x.1 Idle y.1.0 y.1.1 y.1.2).0
one_task old Idle (Execute u) t w x y =
    (choice-unique old.state.board old.execution old.validation Idle x.1.0 x.1.1 x.1.2 (Execute u) w.execution w.validation y.1).0
one_task old Idle (Validate u) t w x y =
    (choice-unique old.state.board old.execution old.validation Idle x.1.0 x.1.1 x.1.2 (Validate u) w.execution w.validation y.1).0
one_task old Idle Idle t w x y = refl
one_task old a b t w x y = absurd (search rules)

-- a value that is logged of a row is not of one that is seen as an ESTIMATE
no_estimate : (s : State) (row : RowKey) (logged : Logged) (is : Seen) (at : ℕ) → logged_of s.opening row is ≡ Some logged → is ≡ seen.Estimate at → ⊥
no_estimate s row logged is at e same = none-some logged (sym (ap (logged_of s.opening row) same) ∙ e)

one_row : (s : State) (v : Version) (row : RowKey) (value also : Option RowVal) (t w : State) → ReadStep s v row (Ok (got.Row value)) t → ReadStep s v row (Ok (got.Row also)) w → value ≡ also
one_row s v row value also t w x y =
    elim x.1 [
      | inl again ↦ elim y.1 [
        | inl too ↦ same_Some _ _ (sym again.0 ∙ too.0)
        | inr first ↦ absurd (none-some value (sym first.2.0 ∙ again.0))
      ]
      | inr first ↦ elim y.1 [
        | inl again ↦ absurd (none-some also (sym first.2.0 ∙ again.0))
        | inr too ↦
            let saw : first.0 ≡ too.0 = Resolves-unique (shelf s) row v.index first.0 too.0 first.2.1 too.2.1 in
            let logged : first.1 ≡ too.1 = same_Some _ _ (sym first.3 ∙ ap (logged_of s.opening row) saw ∙ too.3) in
            first.4 ∙ ap (λ (l : Logged). l.value) logged ∙ sym too.4
      ]
    ]

row_or_estimate : (s : State) (v : Version) (row : RowKey) (value : Option RowVal) (at : ℕ) (t w : State) → ReadStep s v row (Ok (got.Row value)) t → ReadStep s v row (Ok (got.Estimate at)) w → ⊥
row_or_estimate s v row value at t w x y =
    elim x.1 [
      | inl again ↦ none-some value (sym y.1.0 ∙ again.0)
      | inr first ↦ no_estimate s row first.1 first.0 at first.3 (Resolves-unique (shelf s) row v.index first.0 (seen.Estimate at) first.2.1 y.1.1)
    ]

same_at : (m n : ℕ) → seen.Estimate m ≡ seen.Estimate n → m ≡ n
same_at m n e = cc

one_estimate : (s : State) (v : Version) (row : RowKey) (at also : ℕ) (t w : State) → ReadStep s v row (Ok (got.Estimate at)) t → ReadStep s v row (Ok (got.Estimate also)) w → at ≡ also
one_estimate s v row at also t w x y =
    same_at at also (Resolves-unique (shelf s) row v.index (seen.Estimate at) (seen.Estimate also) x.1.1 y.1.1)

-- a read has one answer
pub one_read : (s : State) (v : Version) (row : RowKey) (a b : Result Got CoreFault) (t w : State) → a ≢ Err OutOfMemory → b ≢ Err OutOfMemory → ReadStep s v row a t → ReadStep s v row b w → a ≡ b
one_read s v row (Err NotRunning) (Err NotRunning) t w f g x y = refl
one_read s v row (Ok (got.Row value)) (Ok (got.Row also)) t w f g x y = ap (λ (z : Option RowVal). Ok (got.Row z)) (one_row s v row value also t w x y)
one_read s v row (Ok (got.Row value)) (Ok (got.Estimate also)) t w f g x y = absurd (row_or_estimate s v row value also t w x y)
one_read s v row (Ok (got.Estimate at)) (Ok (got.Row also)) t w f g x y = absurd (row_or_estimate s v row also at w t y x)
one_read s v row (Ok (got.Estimate at)) (Ok (got.Estimate also)) t w f g x y = ap (λ (n : ℕ). Ok (got.Estimate n)) (one_estimate s v row at also t w x y)
one_read s v row a b t w f g x y = absurd (first_of (assumption, search rules))

-- a block has one answer
pub one_block : (s : State) (v : Version) (on : ℕ) (a b : Result (Unit {0}) CoreFault) (t w : State) → BlockStep s v on a t → BlockStep s v on b w → a ≡ b
one_block s v on (Ok u) (Ok z) t w x y = refl
one_block s v on (Err NotRunning) (Err NotRunning) t w x y = refl
one_block s v on (Err Exhausted) (Err Exhausted) t w x y = refl
one_block s v on a b t w x y = absurd (first_of (assumption, search rules))

-- a validation that begins has one answer
pub one_begin : (s : State) (seat : ℕ) (v : Version) (a b : Result Bool CoreFault) (t w : State) → BeginStep s seat v a t → BeginStep s seat v b w → a ≡ b
one_begin s seat v (Ok e) (Ok f) t w x y = ap (λ (z : Bool). Ok z) (x.1 ∙ sym y.1)
one_begin s seat v (Err Outdated) (Err Outdated) t w x y = refl
one_begin s seat v a b t w x y = absurd (first_of (assumption, search rules))

-- a seat has one validation, which is open or not
open_or_not : (s : State) (seat : ℕ) (c d : Validation) (e : Bool) → HasValidation s seat c e → IsOpen s.board c.version → HasValidation s seat d e → ¬ IsOpen s.board d.version → ⊥
open_or_not s seat c d e has is_open also shut = shut (subst (λ (z : Validation). IsOpen s.board z.version) (one_validation s seat c d has.0 also.0) is_open)

-- a validation that goes on has one answer
pub one_validated : (s : State) (seat : ℕ) (a b : Result Bool CoreFault) (t w : State) → ValidationStep s seat a t → ValidationStep s seat b w → a ≡ b
one_validated s seat (Ok e) (Ok f) t w x y =
    let validations : x.0 ≡ y.0 = one_validation s seat x.0 y.0 x.2.0 y.2.0 in
    let next : x.1 ≡ y.1 = Validated-unique s x.0 x.1 y.1 x.4 (subst (λ (c : Validation). Validated s c y.1) (sym validations) y.4) in
    ap (λ (z : Bool). Ok z) (x.5 ∙ ap is_at_end next ∙ sym y.5)
one_validated s seat (Ok e) (Err Outdated) t w x y = absurd (open_or_not s seat x.0 y.0.0 false x.2 x.3 y.0.1 y.0.2)
one_validated s seat (Err Outdated) (Ok f) t w x y = absurd (open_or_not s seat y.0 x.0.0 false y.2 y.3 x.0.1 x.0.2)
one_validated s seat (Err NotRunning) (Err NotRunning) t w x y = refl
one_validated s seat (Err Outdated) (Err Outdated) t w x y = refl
one_validated s seat a b t w x y = absurd (first_of (assumption, search rules))

passed_or_failed : (s : State) (seat : ℕ) (c d : Validation) → HasValidation s seat c true → c.failed ≡ false → HasValidation s seat d true → d.failed ≡ true → ⊥
passed_or_failed s seat c d has passed also failed = false≢true (sym passed ∙ ap (λ (z : Validation). z.failed) (one_validation s seat c d has.0 also.0) ∙ failed)

abort_or_not : (s : State) (seat : ℕ) (c d : Validation) → HasValidation s seat c true → CanAbort s c → HasValidation s seat d true → ¬ CanAbort s d → ⊥
abort_or_not s seat c d has can also not = not (subst (λ (z : Validation). CanAbort s z) (one_validation s seat c d has.0 also.0) can)

-- the end of a validation has one answer
pub one_end : (s : State) (seat : ℕ) (a b : Result Bool CoreFault) (t w : State) → EndStep s seat a t → EndStep s seat b w → a ≡ b
one_end s seat (Ok true) (Ok true) t w x y = refl
one_end s seat (Ok true) (Ok false) t w x y = absurd (passed_or_failed s seat x.0 y.0 x.1 x.3 y.1 y.3)
one_end s seat (Ok true) (Err Outdated) t w x y = absurd (open_or_not s seat x.0 y.0.0 true x.1 x.2 y.0.1 y.0.2)
one_end s seat (Ok true) (Err Exhausted) t w x y = absurd (passed_or_failed s seat x.0 y.0.0 x.1 x.3 y.0.1 y.0.3)
one_end s seat (Ok false) (Ok true) t w x y = absurd (passed_or_failed s seat y.0 x.0 y.1 y.3 x.1 x.3)
one_end s seat (Ok false) (Ok false) t w x y = refl
one_end s seat (Ok false) (Err Outdated) t w x y = absurd (open_or_not s seat x.0 y.0.0 true x.1 x.2 y.0.1 y.0.2)
one_end s seat (Ok false) (Err Exhausted) t w x y = absurd (abort_or_not s seat x.0 y.0.0 x.1 x.4 y.0.1 y.0.4)
one_end s seat (Err NotRunning) (Err NotRunning) t w x y = refl
one_end s seat (Err Outdated) (Ok true) t w x y = absurd (open_or_not s seat y.0 x.0.0 true y.1 y.2 x.0.1 x.0.2)
one_end s seat (Err Outdated) (Ok false) t w x y = absurd (open_or_not s seat y.0 x.0.0 true y.1 y.2 x.0.1 x.0.2)
one_end s seat (Err Outdated) (Err Outdated) t w x y = refl
one_end s seat (Err Outdated) (Err Exhausted) t w x y = absurd (open_or_not s seat y.0.0 x.0.0 true y.0.1 y.0.2 x.0.1 x.0.2)
one_end s seat (Err Exhausted) (Ok true) t w x y = absurd (passed_or_failed s seat y.0 x.0.0 y.1 y.3 x.0.1 x.0.3)
one_end s seat (Err Exhausted) (Ok false) t w x y = absurd (abort_or_not s seat y.0 x.0.0 y.1 y.4 x.0.1 x.0.4)
one_end s seat (Err Exhausted) (Err Outdated) t w x y = absurd (open_or_not s seat x.0.0 y.0.0 true x.0.1 x.0.2 y.0.1 y.0.2)
one_end s seat (Err Exhausted) (Err Exhausted) t w x y = refl
one_end s seat a b t w x y = absurd (first_of (assumption, search rules))

-- a commit has one answer
pub one_commit : (s : State) (a b : Bool) (t w : State) → CommitStep s a t → CommitStep s b w → a ≡ b
one_commit s true true t w x y = refl
one_commit s true false t w x y = absurd (y.0 (x.0, x.1))
one_commit s false true t w x y = absurd (x.0 (y.0, y.1))
one_commit s false false t w x y = refl
