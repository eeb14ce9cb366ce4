-- What a change of a core carries over: sound reads, validations, and what is kept of each message that it leaves alone.
use Rattle.std.proofs.Common.{◌≡◌, ◌≢◌, ℕ, ◌≤◌, ◌+◌, Bool, true, false, if◌then◌else◌, nat_eq, List, inl, inr, length, Contains, refl, sym, ap, ◌∙◌, subst, Some, arith}
use Rattle.std.specs.FinMap as finite
use Rattle.issuer_words.specs.Words.{Executed, Frame, RowKey, RowVal, Rows}
use Rattle.stm_memory.specs.Entries.{Entries, Shelf, place_of, value_at}
use Rattle.stm_scheduler.specs.Board.{IsFloored, woken_status}
use Rattle.stm_core_laws.specs.Words.{IsAt, Log, MessageState, Resolve, State, message, shelf}
use Rattle.stm_core_laws.specs.declared.limits.Limits.{Limits}
use Rattle.stm_core_laws.specs.declared.logged.Logged.{Logged}
use Rattle.stm_core_laws.specs.declared.validation.Validation.{Validation}
use Rattle.stm_memory.specs.declared.version.Version.{Version}
use Rattle.stm_scheduler.specs.declared.status.Status.{Status}
use Rattle.stm_core_laws.proofs.Shelves.{Keeps, Keeps-same, Resolve-kept}
use Rattle.stm_core_laws.specs.Holds.{WasFinished, IsExecutedIn, IsSoundRead, IsExecutedBy, IsKept, IsKeptValidation}
use Rattle.stm_scheduler.specs.declared.status.Status.TheVariants as status

-- What finished stays finished; and an incarnation that finished and is the present one is the one that was executed before.
pub record Moves (m after : MessageState) : Type 0 where
  pub finished : (incarnation : ℕ) → WasFinished m incarnation → WasFinished after incarnation
  pub same : (incarnation : ℕ) → WasFinished m incarnation → IsExecutedIn after incarnation → IsExecutedIn m incarnation × (after.log ≡ m.log)

-- a message that is executed neither before nor after
pub Moves-unfinished : (m after : MessageState) → m.status ≢ status.Executed → after.status ≢ status.Executed → m.incarnation ≤ after.incarnation → Moves m after
Moves-unfinished m after before now rises =
    record {
      finished = λ n h. elim h [ inl less ↦ inl (omega arith) | inr is ↦ absurd (before is.0) ];
      same = λ n h is. absurd (now is.0);
    }

-- one that finishes
pub Moves-finished : (m after : MessageState) → m.status ≢ status.Executed → after.incarnation ≡ m.incarnation → Moves m after
Moves-finished m after before stays =
    record {
      finished = λ n h. elim h [ inl less ↦ inl (omega arith) | inr is ↦ absurd (before is.0) ];
      same = λ n h is. elim h [ inl less ↦ let now = is.1 in absurd (omega arith) | inr was ↦ absurd (before was.0) ];
    }

-- one that is aborted
pub Moves-aborted_as : (m after : MessageState) → after.status ≢ status.Executed → after.incarnation ≡ m.incarnation + 1 → Moves m after
Moves-aborted_as m after now rises =
    record {
      finished = λ n h. elim h [ inl less ↦ inl (omega arith) | inr is ↦ let was = is.1 in inl (omega arith) ];
      same = λ n h is. absurd (now is.0);
    }

-- one that has the same status, incarnation and log
pub Moves-alike : (m after : MessageState) → after.status ≡ m.status → after.incarnation ≡ m.incarnation → after.log ≡ m.log → Moves m after
Moves-alike m after is stays log =
    record {
      finished = λ n h. elim h [ inl less ↦ inl (omega arith) | inr was ↦ inr (is ∙ was.0, stays ∙ was.1) ];
      same = λ n h now. ((sym is ∙ now.0, sym stays ∙ now.1), log);
    }

-- The message is the same, but that one that is not executed may have another status of those.
abbrev pub IsLike : MessageState → MessageState → Type 0
IsLike m after =
    (after.incarnation ≡ m.incarnation) × (after.log ≡ m.log) × (after.status ≡ status.Executed → after ≡ m)
    × (m.status ≡ status.Executed → after ≡ m)

pub IsLike-refl : (m : MessageState) → IsLike m m
IsLike-refl m = (refl, refl, λ e. refl, λ e. refl)

-- an equal one is
pub IsLike-same : (m after : MessageState) → after ≡ m → IsLike m after
IsLike-same m after same = subst (IsLike m) (sym same) (IsLike-refl m)

pub Moves-IsLike : (m after : MessageState) → IsLike m after → Moves m after
Moves-IsLike m after like =
    let stays : after.incarnation ≡ m.incarnation = like.0 in
    record {
      finished = λ n h. elim h [ inl less ↦ inl (omega arith) | inr was ↦ inr (subst (λ (x : MessageState). IsExecutedIn x n) (sym (like.3 was.0)) was) ];
      same = λ n h now. (subst (λ (x : MessageState). IsExecutedIn x n) (like.2 now.0) now, like.1);
    }

-- a message that waits or is ready is not executed
waits_or_ready : (b : Bool) (on : ℕ) → (if b then status.Ready else status.Waiting on) ≢ status.Executed
waits_or_ready true on e = cc
waits_or_ready false on e = cc

-- waking makes no message executed
woken_executed : (i : ℕ) (is : Status) → woken_status i is ≡ status.Executed → is ≡ status.Executed
woken_executed i status.Ready e = e
woken_executed i status.Running e = e
woken_executed i status.Executed e = e
woken_executed i (status.Waiting on) e = absurd (waits_or_ready (nat_eq on i) on e)

-- a message that waits for i is ready
abbrev pub woken_message : ℕ → MessageState → MessageState
woken_message i m = record m { status = woken_status i m.status }

-- an executed message is not changed by waking
woken_same : (i : ℕ) (m : MessageState) → m.status ≡ status.Executed → woken_message i m ≡ m
woken_same i m e = ap (λ (is : Status). record m { status = is }) (ap (woken_status i) e ∙ sym e)

pub IsLike-woken : (i : ℕ) (m : MessageState) → IsLike m (woken_message i m)
IsLike-woken i m = (refl, refl, λ e. woken_same i m (woken_executed i m.status e), woken_same i m)

-- What a change carries over: what finished stays so; no value appears at a version that finished; and what can be seen from j
-- stays where no floor up to j passes an epoch of before.
pub record Carries (old new : State) : Type 0 where
  pub opening : new.opening ≡ old.opening
  pub frames : new.frames ≡ old.frames
  pub limits : new.limits ≡ old.limits
  pub epoch : old.board.epoch ≤ new.board.epoch
  pub moves : (j : ℕ) → Moves (message old j) (message new j)
  pub stood : (v : Version) (row : RowKey) (value : RowVal) → WasFinished (message old v.index) v.incarnation → shelf new row v.index ≡ Some (value_at v.incarnation value) → shelf old row v.index ≡ Some (value_at v.incarnation value)
  pub floors : (j epoch : ℕ) → epoch ≤ old.board.epoch → IsFloored new.board j epoch → IsFloored old.board j epoch × Keeps (shelf old) (shelf new) j

-- a sound read stays sound
pub sound-carried : (old new : State) → Carries old new → (read : RowKey × Logged) → IsSoundRead old read → IsSoundRead new read
sound-carried old new c read h =
    record {
      base = λ e. h.base e ∙ ap (λ (rows : Rows). finite.get rows read.0) (sym c.opening);
      was_finished = λ v e. (c.moves v.index).finished v.incarnation (h.was_finished v e);
      stands = λ v value e at. h.stands v value e (c.stood v read.0 value (h.was_finished v e) at);
    }

-- a validation is kept
pub validation-carried : (old new : State) → Carries old new → (validation : Validation) → IsKeptValidation old validation → IsKeptValidation new validation
validation-carried old new c validation h =
    let j : ℕ = validation.version.index in
    let was : IsExecutedIn (message new j) validation.version.incarnation → IsExecutedIn (message old j) validation.version.incarnation × ((message new j).log ≡ (message old j).log) = (c.moves j).same validation.version.incarnation h.was_finished in
    let rises = c.epoch in
    let began = h.began in
    record {
      began = omega arith;
      was_finished = (c.moves j).finished validation.version.incarnation h.was_finished;
      within = h.within;
      reads = λ now. h.reads (was now).0 ∙ ap length (sym (was now).1);
      passed = λ now floored. let f = c.floors j validation.began h.began floored in subst (λ (log : Log). Resolve (shelf new) j log validation.place) (sym (was now).1) (Resolve-kept (shelf old) (shelf new) j (message old j).log validation.place f.1 (h.passed (was now).0 f.0));
    }

-- a message that is left alone is executed as before
pub executed-carried : (at now : Shelf) (frames all : List Frame) (j : ℕ) (m : MessageState) (x : Executed) → all ≡ frames → ((row : RowKey) → now row j ≡ at row j) → IsExecutedBy frames at j m x → IsExecutedBy all now j m x
executed-carried at now frames all j m x same_frames same h =
    record {
      true_one = h.true_one;
      of_frame = subst (λ (fs : List Frame). IsAt fs j x.frame) (sym same_frames) h.of_frame;
      logged = h.logged;
      reply = h.reply;
      values = λ row. same row ∙ h.values row;
    }

-- what is kept of a message that the change leaves alone
pub kept-carried : (old new : State) → Carries old new → (j : ℕ) (m after : MessageState) → IsLike m after → ((row : RowKey) → shelf new row j ≡ shelf old row j) → IsKept old j m → IsKept new j after
kept-carried old new c j m after like same h =
    let bound = h.incarnation in
    let stays = like.0 in
    let limit : new.limits.incarnation ≡ old.limits.incarnation = ap (λ (l : Limits). l.incarnation) c.limits in
    record {
      incarnation = omega arith;
      sound = λ read d. sound-carried old new c read (h.sound read (subst (λ (log : Log). Contains log read) like.1 d));
      executed = λ e.
          let was : m.status ≡ status.Executed = subst (λ (n : MessageState). n.status ≡ status.Executed) (like.2 e) e in
          let x = h.executed was in
          (x.0, subst (λ (n : MessageState). IsExecutedBy new.frames (shelf new) j n x.0) (sym (like.2 e)) (executed-carried (shelf old) (shelf new) old.frames new.frames j m x.0 c.frames same x.1));
      estimates = λ ne row x e. h.estimates (λ was. ne (subst (λ (n : MessageState). n.status ≡ status.Executed) (sym (like.3 was)) was)) row x (sym (same row) ∙ e);
      stamped = λ e. subst (λ (n : MessageState). n.status ≡ status.Executed → (stamp : ℕ) → n.stamp ≡ Some stamp → (stamp ≤ new.board.epoch) × (IsFloored new.board j stamp → Resolve (shelf new) j n.log (length n.log))) (sym (like.2 e)) (λ was stamp is. let b = h.stamped was stamp is in let below = b.0 in let rises = c.epoch in (omega arith, λ floored. let f = c.floors j stamp b.0 floored in Resolve-kept (shelf old) (shelf new) j m.log (length m.log) f.1 (b.1 f.0))) e;
    }

-- a change that leaves entries, floors and epoch as they are
pub Carries-quiet : (old new : State) → new.opening ≡ old.opening → new.frames ≡ old.frames → new.limits ≡ old.limits → new.entries ≡ old.entries → new.board.floors ≡ old.board.floors → new.board.epoch ≡ old.board.epoch → ((j : ℕ) → Moves (message old j) (message new j)) → Carries old new
Carries-quiet old new opening frames limits entries floors epoch moves =
    let same : (row : RowKey) (i : ℕ) → shelf new row i ≡ shelf old row i = λ row i. ap (λ (es : Entries). finite.get es (place_of row i)) entries in
    record {
      opening = opening;
      frames = frames;
      limits = limits;
      epoch = omega arith;
      moves = moves;
      stood = λ v row value h e. sym (same row v.index) ∙ e;
      floors = λ j e l floored. (subst (λ (fs : List ℕ). (t : ℕ) → t ≤ j → Rattle.std.specs.Prelude.slice_index_or fs t 0 ≤ e) floors floored, Keeps-same (shelf old) (shelf new) j (λ row i l. same row i));
    }
