-- A validation over several events: it begins, goes over one read after another, and passes.
use Rattle.std.proofs.Common.{◌≡◌, ℕ, ◌<◌, max, true, false, nat_eq, List, ◌⊎◌, inl, inr, length, refl, sym, ap, ◌∙◌, subst, Option, Some, None, arith, eqb-true, Bool, ◌||◌, eq-eqb}
use Rattle.std.proofs.lemmas.Bool.{cases_lt, or_cases, false≢true, cases_eq}
use Rattle.std.proofs.lemmas.List.{get_or_default}
use Rattle.std.proofs.lemmas.Option.{same_Some}
use Rattle.stm_core_laws.proofs.Carries.{Moves-alike}
use Rattle.stm_core_laws.proofs.Changed.{Holds-mark, Holds-validation, of_other, in_batch, executed_not_ready}
use Rattle.issuer_rows.specs.declared.row_key.RowKey.{RowKey}
use Rattle.stm_memory.specs.declared.version.Version.{Version}
use Rattle.stm_scheduler.specs.Board.{mark, passed, stamped, IsOpen, IsFloored}
use Rattle.stm_scheduler.specs.declared.message_progress.MessageProgress.{MessageProgress}
use Rattle.stm_core_laws.specs.Holds.{Holds, IsKept, IsKeptValidation}
use Rattle.stm_core_laws.specs.Log.{Resolve, ResolvesAs}
use Rattle.stm_core_laws.specs.State.{IsAt, Log, MessageState, State, message, message_of, seats, shelf, slot, with_validation}
use Rattle.stm_core_laws.specs.Step.{HasValidation, Validated, beginning, is_at_end}
use Rattle.stm_core_laws.specs.declared.logged.Logged.{Logged}
use Rattle.stm_core_laws.specs.declared.validation.Validation.{Validation}
use Rattle.stm_scheduler.specs.declared.status.Status.TheVariants as status

-- one thing stands at a place
pub one_at : {X : Type 0} (xs : List X) (k : ℕ) (x y : X) → IsAt xs k x → IsAt xs k y → x ≡ y
one_at xs k x y a b = a.1 ∙ get_or_default xs k x y a.0 ∙ sym b.1

-- a seat begins a validation
pub Holds-begun : (s : State) → Holds s → (seat : ℕ) (v : Version) → seat < seats → IsOpen s.board v → Holds (with_validation s seat (Some (beginning s v)))
Holds-begun s h seat v l opened =
    let kept : IsKeptValidation s (beginning s v) = record {
      began = omega arith;
      was_finished = inr opened.0;
      within = omega arith;
      reads = λ now. refl;
      passed = λ now floored k read less at. absurd (omega arith);
    } in
    Holds-validation s seat (Some (beginning s v)) h l (λ c e. subst (IsKeptValidation s) (same_Some _ _ e) kept)

-- one more read of a validation was resolved again
validated-kept : (s : State) (c next : Validation) → IsKeptValidation s c → IsOpen s.board c.version → Validated s c next → IsKeptValidation s next
validated-kept s c next h opened validated =
    let j : ℕ = c.version.index in
    let log : Log = (message s j).log in
    let all : c.reads ≡ length log = h.reads opened.0 in
    let there : c.place < length log = validated.1.0 in
    elim validated.2 [
      | inl stays ↦ subst (IsKeptValidation s) (sym stays.1) (record {
        began = h.began;
        was_finished = h.was_finished;
        within = omega arith;
        reads = h.reads;
        passed = λ now floored k read less at. elim (cases_lt k c.place) [
          | inl before ↦ h.passed now floored k read before at
          | inr past ↦
              let same : k ≡ c.place = omega arith in
              let is : validated.0 ≡ read = one_at log c.place validated.0 read validated.1 (subst (λ (n : ℕ). IsAt log n read) same at) in
              subst (λ (r : RowKey × Logged). ResolvesAs (shelf s) r.0 j r.1.origin) is stays.0
        ];
      })
      | inr fails ↦ subst (IsKeptValidation s) (sym fails.1) (record { began = h.began; was_finished = h.was_finished; within = h.within; reads = h.reads; passed = h.passed })
    ]

-- a seat's validation goes one read on
pub Holds-validated : (s : State) → Holds s → (seat : ℕ) (c next : Validation) → seat < seats → HasValidation s seat c false → IsOpen s.board c.version → Validated s c next → Holds (with_validation s seat (Some next))
Holds-validated s h seat c next l has opened validated =
    Holds-validation s seat (Some next) h l (λ other e. subst (IsKeptValidation s) (same_Some _ _ e) (validated-kept s c next (h.validations seat c has.0) opened validated))

-- the greater of two numbers is one of them
max_cases : (a b stamp : ℕ) → max a b ≡ stamp → (stamp ≡ b) ⊎ (a ≡ stamp)
max_cases a b stamp e = elim (cases_lt a b) [ inl l ↦ inl (omega arith) | inr ge ↦ inr (omega arith) ]

-- a stamp after a validation is the epoch at which that began, or was there
stamped_cases : (o : Option ℕ) (began stamp : ℕ) → stamped o began ≡ Some stamp → (stamp ≡ began) ⊎ (o ≡ Some stamp)
stamped_cases None began stamp e = inl (sym (same_Some _ _ e))
stamped_cases (Some before) began stamp e =
    elim (max_cases before began stamp (same_Some _ _ e)) [ inl now ↦ inl now | inr was ↦ inr (ap Some was) ]

-- a validation that is at its end and did not fail went over all reads
all_passed : (c : Validation) → is_at_end c ≡ true → c.failed ≡ false → c.place ≡ c.reads
all_passed c ended passes =
    elim (or_cases c.failed (nat_eq c.place c.reads) ended) [
      | inl fails ↦ absurd (false≢true (sym passes ∙ fails))
      | inr all ↦ eqb-true c.place c.reads all
    ]

-- a version passes a validation
pub Holds-passed : (s : State) → Holds s → (c : Validation) → IsKeptValidation s c → is_at_end c ≡ true → c.failed ≡ false → IsOpen s.board c.version → Holds (record s { board = passed s.board c.version.index c.began })
Holds-passed s h c validation ended passes opened =
    let i : ℕ = c.version.index in
    let was : MessageState = message s i in
    let m : MessageProgress = record (mark s.board i) { stamp = stamped was.stamp c.began } in
    let after : MessageState = message_of m (slot s i) in
    let kept : IsKept s i was = h.messages i in
    let all : c.place ≡ length was.log = all_passed c ended passes ∙ validation.reads opened.0 in
    Holds-mark s i m h (in_batch s.board i (of_other was status.Executed status.Ready opened.0.0 executed_not_ready)) opened.1
    (Moves-alike was after refl refl refl)
    (record {
      incarnation = kept.incarnation;
      sound = kept.sound;
      executed = λ e. let x = kept.executed e in (x.0, record { true_one = x.1.true_one; of_frame = x.1.of_frame; logged = x.1.logged; reply = x.1.reply; values = x.1.values });
      estimates = kept.estimates;
      stamped = λ e stamp is. elim (stamped_cases was.stamp c.began stamp is) [
        | inl now ↦ let below = validation.began in (omega arith, λ floored. subst (Resolve (shelf s) i was.log) all (validation.passed opened.0 (subst (IsFloored s.board i) now floored)))
        | inr before ↦ kept.stamped e stamp before
      ];
    })

-- what ends one way or the other
pub at_its_end : (a b : Bool) → b ≡ true → (a || b) ≡ true
at_its_end true b e = refl
at_its_end false b e = e

-- the next read of an open validation that is not at its end is there
pub next_read_there : (s : State) → Holds s → (seat : ℕ) (c : Validation) → HasValidation s seat c false → IsOpen s.board c.version → c.place < length (slot s c.version.index).log
next_read_there s h seat c has opened =
    let kept = h.validations seat c has.0 in
    let all = kept.reads opened.0 in
    let within = kept.within in
    elim (cases_eq c.place c.reads) [
      | inl same ↦ absurd (false≢true (sym has.1 ∙ at_its_end c.failed (nat_eq c.place c.reads) (eq-eqb c.place c.reads same)))
      | inr ne ↦ omega arith
    ]
