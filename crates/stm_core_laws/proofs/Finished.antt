-- A version finishes, with a new location or without, and an execution is aborted.
use Rattle.std.proofs.Common.{◌≡◌, ◌≢◌, ℕ, zero, suc, ◌<◌, ◌≤◌, ◌+◌, List, [], ◌∷◌, inl, inr, length, map, get_or, set, refl, sym, ap, ◌∙◌, subst, Some, None, option_map, arith, length-set, get_or-set_same, get_or-set_other}
use Rattle.std.proofs.lemmas.Bool.{cases_eq, cases_lt}
use Rattle.std.proofs.lemmas.List.{length-map}
use Rattle.std.proofs.lemmas.Option.{none-some}
use Rattle.std.specs.FinMap as finite
use Rattle.issuer_words.specs.Words.{Executed, IsTrueExecution, RowKey, RowVal}
use Rattle.stm_core_laws.proofs.Carries.{Carries, woken_message, Moves, Moves-finished, Moves-aborted_as, Moves-IsLike, IsLike, IsLike-same, IsLike-woken, sound-carried}
use Rattle.stm_core_laws.proofs.Changed.{Holds-changed, message_by, mark_same, mark_other, slot_same, slot_other, of_other, in_batch, past_committed, ready_not_executed, running_not_executed, executed_not_ready}
use Rattle.stm_core_laws.proofs.Logs.{running_in_batch}
use Rattle.stm_core_laws.proofs.Members.{Contains-nil}
use Rattle.stm_core_laws.proofs.Shelves.{Keeps, Keeps-same, option_cases, incarnation_of_value, value_not_estimate, estimate_stands, no_value_stands}
use Rattle.stm_memory.specs.Entries.{value_at, place_of, Entries, AreReplaced, AreEstimated, IsNewLocation, written}
use Rattle.stm_memory.specs.declared.version.Version.{Version}
use Rattle.stm_scheduler.specs.Board.{Board, mark, fresh_mark, floor, unstamped, finished, lowered, woken, IsOpen, IsRunning, IsFloored, with_mark}
use Rattle.stm_scheduler.specs.declared.message_progress.MessageProgress.{MessageProgress}
use Rattle.stm_core_laws.specs.Holds.{Holds, IsKept, WasFinished}
use Rattle.stm_core_laws.specs.State.{State, MessageState, ExecutionSlot, message, message_of, slot, empty_slot, shelf}
use Rattle.stm_core_laws.specs.Step.{IsOfVersion, CanAbort, with_execution, without_execution}
use Rattle.stm_core_laws.specs.declared.validation.Validation.{Validation}
use Rattle.stm_scheduler.specs.declared.status.Status.TheVariants as status

-- a mapped list read at a default that the map keeps
get_or-map_default : {X : Type 0} (f : X → X) (xs : List X) (k : ℕ) (d : X) → f d ≡ d → get_or (map f xs) k d ≡ f (get_or xs k d)
get_or-map_default f [] k d e = sym e
get_or-map_default f (x ∷ xs) zero d e = refl
get_or-map_default f (x ∷ xs) (suc k) d e = get_or-map_default f xs k d e

-- a raised floor is at most its epoch
raised_floor : (s : State) (i t : ℕ) → Holds s → floor (lowered s.board i) t ≤ s.board.epoch + 1
raised_floor s i t h =
    let was = h.floors t in
    elim (cases_eq t (i + 1)) [
      | inl e ↦ elim (cases_lt t (length s.board.floors)) [
        | inl l ↦ let now : floor (lowered s.board i) t ≡ s.board.epoch + 1 = subst (λ (n : ℕ). get_or (set s.board.floors n (s.board.epoch + 1)) t 0 ≡ s.board.epoch + 1) e (get_or-set_same s.board.floors t (s.board.epoch + 1) 0 l) in omega arith
        | inr past ↦ let now : floor (lowered s.board i) t ≡ 0 = Rattle.std.proofs.lemmas.List.get_or_past (set s.board.floors (i + 1) (s.board.epoch + 1)) t 0 (let n = length-set s.board.floors (i + 1) (s.board.epoch + 1) in omega arith) in omega arith
      ]
      | inr ne ↦ let now : floor (lowered s.board i) t ≡ floor s.board t = get_or-set_other s.board.floors (i + 1) t (s.board.epoch + 1) 0 ne in omega arith
    ]

-- What may change at index i where the floor after it was raised: a message after i sees a floor that passes all epochs of
-- before, and one up to i sees no entry of i.
lowered_carries : (s : State) (new : State) (i : ℕ) → i + 1 < length s.board.floors → new.board.floors ≡ set s.board.floors (i + 1) (s.board.epoch + 1) → ((row : RowKey) (j : ℕ) → j ≢ i → shelf new row j ≡ shelf s row j) → (j epoch : ℕ) → epoch ≤ s.board.epoch → IsFloored new.board j epoch → IsFloored s.board j epoch × Keeps (shelf s) (shelf new) j
lowered_carries s new i there floors same j epoch below floored =
    let floored_set : (t : ℕ) → t ≤ j → get_or (set s.board.floors (i + 1) (s.board.epoch + 1)) t 0 ≤ epoch = subst (λ (fs : List ℕ). (t : ℕ) → t ≤ j → get_or fs t 0 ≤ epoch) floors floored in
    elim (cases_lt i j) [
      | inl after ↦ let now = get_or-set_same s.board.floors (i + 1) (s.board.epoch + 1) 0 there in let up = floored_set (i + 1) (omega arith) in absurd (omega arith)
      | inr upto ↦ (
        λ t l. let now = get_or-set_other s.board.floors (i + 1) t (s.board.epoch + 1) 0 (λ e. omega arith) in let up = floored_set t l in omega arith,
        Keeps-same (shelf s) (shelf new) j (λ row k l. same row k (λ e. omega arith)),
      )
    ]

-- What finishes without a new location changes at its index: nothing appears, and nothing that stood was a value.
replaced_carries : (s : State) (new : State) (i : ℕ) (writes : Rattle.issuer_rows.specs.Plan.Writes) (incarnation : ℕ) → Holds s → (message s i).status ≢ status.Executed → ((row : RowKey) → shelf new row i ≡ option_map (value_at incarnation) (written writes row)) → ¬ IsNewLocation s.entries i writes → ((row : RowKey) (j : ℕ) → j ≢ i → shelf new row j ≡ shelf s row j) → (j : ℕ) → Keeps (shelf s) (shelf new) j
replaced_carries s new i writes incarnation h before own none_new same j row k l =
    elim (cases_eq k i) [
      | inl e ↦
          subst (λ (n : ℕ). (shelf s row n ≡ None → shelf new row n ≡ None) × ((inc : ℕ) (value : RowVal) → shelf s row n ≡ Some (value_at inc value) → shelf new row n ≡ Some (value_at inc value))) (sym e) (
            λ empty. elim (option_cases (written writes row)) [
              | inl nothing ↦ own row ∙ ap (option_map (value_at incarnation)) nothing
              | inr some ↦ absurd (none_new (row, some.0, some.1, empty))
            ],
            λ inc value stood. absurd (value_not_estimate value ((h.messages i).estimates before row (value_at inc value) stood)),
          )
      | inr ne ↦ (λ e. same row k ne ∙ e, λ inc value e. same row k ne ∙ e)
    ]

-- where messages stand after one finished
finished_mark : (b : Board) (i j : ℕ) → mark (finished b i) j ≡ woken i (mark (with_mark b i (unstamped status.Executed (mark b i).incarnation)) j)
finished_mark b i j = get_or-map_default (woken i) _ j fresh_mark refl

-- a message of the batch has a slot
slot_there : (s : State) → Holds s → (i : ℕ) → i < length s.board.marks → i < length s.slots
slot_there s h i l = let paired = h.paired in let slotted = h.slotted in omega arith

-- A running version finishes, with these entries, floors and epoch.
Holds-replaced : (s : State) → Holds s → (v : Version) (x : Executed) (entries : Entries) (floors : List ℕ) (epoch : ℕ) → IsTrueExecution x → IsRunning s.board v → IsOfVersion s v x → AreReplaced v x.writes s.entries entries → length floors ≡ length s.board.floors → s.board.epoch ≤ epoch → epoch ≤ s.limits.epoch → ((t : ℕ) → get_or floors t 0 ≤ epoch) → ((j e : ℕ) → e ≤ s.board.epoch → ((t : ℕ) → t ≤ j → get_or floors t 0 ≤ e) → IsFloored s.board j e × Keeps (shelf s) (λ row k. finite.get entries (place_of row k)) j) → Holds (with_execution s v x entries (record (finished s.board v.index) { floors = floors; epoch = epoch }))
Holds-replaced s h v x entries floors epoch true_one running of_version replaced floored rises bound below carried =
    let i : ℕ = v.index in
    let was : MessageState = message s i in
    let stands : MessageProgress = unstamped status.Executed (mark s.board i).incarnation in
    let kept_now : ExecutionSlot = record (slot s i) { reply = Some x.reply } in
    let m : MessageState = message_of stands kept_now in
    let new : State = with_execution s v x entries (record (finished s.board i) { floors = floors; epoch = epoch }) in
    let before : was.status ≢ status.Executed = of_other was status.Running status.Executed running.0 running_not_executed in
    let there : i < length s.board.marks = running_in_batch s.board i running.0 in
    let now : message new i ≡ m = message_by (mark new.board i) stands (slot new i) kept_now (finished_mark s.board i i ∙ ap (woken i) (mark_same s.board i stands there)) (slot_same s i kept_now (slot_there s h i there)) in
    let other : (j : ℕ) → j ≢ i → message new j ≡ woken_message i (message s j) = λ j ne. message_by (mark new.board j) (woken i (mark s.board j)) (slot new j) (slot s j) (finished_mark s.board i j ∙ ap (woken i) (mark_other s.board i stands j ne)) (slot_other s i kept_now j ne) in
    let like : (j : ℕ) → j ≢ i → IsLike (message s j) (message new j) = λ j ne. subst (IsLike (message s j)) (sym (other j ne)) (IsLike-woken i (message s j)) in
    let carries : Carries s new = record {
      opening = refl;
      frames = refl;
      limits = refl;
      epoch = rises;
      moves = λ j. elim (cases_eq j i) [
        | inl e ↦ subst (λ (n : ℕ). Moves (message s n) (message new n)) (sym e) (subst (Moves was) (sym now) (Moves-finished was m before refl))
        | inr ne ↦ Moves-IsLike (message s j) (message new j) (like j ne)
      ];
      stood = λ w row value ended e. elim (cases_eq w.index i) [
        | inl is ↦
            let of_v : v.incarnation ≡ w.incarnation = incarnation_of_value v.incarnation w.incarnation (written x.writes row) value (sym (replaced.0 row) ∙ subst (λ (n : ℕ). finite.get entries (place_of row n) ≡ Some (value_at w.incarnation value)) is e) in
            let is_v = running.1 in
            elim (subst (λ (n : ℕ). WasFinished (message s n) w.incarnation) is ended) [
              | inl less ↦ absurd (omega arith)
              | inr executed ↦ absurd (before executed.0)
            ]
        | inr ne ↦ sym (replaced.1 row w.index ne) ∙ e
      ];
      floors = carried;
    } in
    let old : IsKept s i was = h.messages i in
    Holds-changed s new i h
    (record {
      carries = carries;
      marks = length-map _ (woken i) ∙ length-set s.board.marks i stands;
      slots = length-set s.slots i kept_now;
      floored = floored;
      seated = refl;
      committed = refl;
      past = past_committed s h i before;
      like = like;
      same = replaced.1;
      kept = subst (IsKept new i) (sym now) (record {
        incarnation = old.incarnation;
        sound = λ read c. sound-carried s new carries read (old.sound read c);
        executed = λ e. (x, record { true_one = true_one; of_frame = of_version.0; logged = of_version.1; reply = refl; values = λ row. subst (λ (n : ℕ). finite.get entries (place_of row i) ≡ option_map (value_at n) (written x.writes row)) (sym running.1) (replaced.0 row) });
        estimates = λ ne. absurd (ne refl);
        stamped = λ e stamp is. absurd (none-some stamp is);
      });
      epoch = bound;
      floors = below;
      validations = λ seat c e. inl e;
    })

-- without a new location
pub Holds-finished : (s : State) → Holds s → (v : Version) (x : Executed) (entries : Entries) → IsTrueExecution x → IsRunning s.board v → IsOfVersion s v x → AreReplaced v x.writes s.entries entries → ¬ IsNewLocation s.entries v.index x.writes → Holds (with_execution s v x entries (finished s.board v.index))
Holds-finished s h v x entries true_one running of_version replaced none_new =
    let before : (message s v.index).status ≢ status.Executed = of_other (message s v.index) status.Running status.Executed running.0 running_not_executed in
    Holds-replaced s h v x entries s.board.floors s.board.epoch true_one running of_version replaced refl (omega arith) h.epoch h.floors
    (λ j e l floored. (floored, replaced_carries s (with_execution s v x entries (finished s.board v.index)) v.index x.writes v.incarnation h before replaced.0 none_new replaced.1 j))

-- the floor after a message of the batch is there
floor_there : (s : State) → Holds s → (i : ℕ) → i < length s.board.marks → i + 1 < length s.board.floors
floor_there s h i l = let floored = h.floored in let paired = h.paired in omega arith

-- with one
pub Holds-finished_new : (s : State) → Holds s → (v : Version) (x : Executed) (entries : Entries) → IsTrueExecution x → IsRunning s.board v → IsOfVersion s v x → AreReplaced v x.writes s.entries entries → s.board.epoch ≢ s.limits.epoch → Holds (with_execution s v x entries (lowered (finished s.board v.index) v.index))
Holds-finished_new s h v x entries true_one running of_version replaced left =
    let bound = h.epoch in
    let new : State = with_execution s v x entries (lowered (finished s.board v.index) v.index) in
    Holds-replaced s h v x entries (set s.board.floors (v.index + 1) (s.board.epoch + 1)) (s.board.epoch + 1) true_one running of_version replaced
    (length-set s.board.floors (v.index + 1) (s.board.epoch + 1)) (omega arith) (omega arith) (λ t. raised_floor s v.index t h)
    (lowered_carries s new v.index (floor_there s h v.index (running_in_batch s.board v.index running.0)) refl replaced.1)

-- an execution is aborted
pub Holds-aborted : (s : State) → Holds s → (c : Validation) (entries : Entries) → IsOpen s.board c.version → CanAbort s c → AreEstimated c.version.index s.entries entries → Holds (without_execution s c.version.index entries)
Holds-aborted s h c entries opened left estimated =
    let i : ℕ = c.version.index in
    let was : MessageState = message s i in
    let stands : MessageProgress = unstamped status.Ready (was.incarnation + 1) in
    let m : MessageState = message_of stands empty_slot in
    let new : State = without_execution s i entries in
    let there : i < length s.board.marks = in_batch s.board i (of_other was status.Executed status.Ready opened.0.0 executed_not_ready) in
    let now : message new i ≡ m = message_by (mark new.board i) stands (slot new i) empty_slot (mark_same s.board i stands there) (slot_same s i empty_slot (slot_there s h i there)) in
    let like : (j : ℕ) → j ≢ i → IsLike (message s j) (message new j) = λ j ne. IsLike-same (message s j) (message new j) (message_by (mark new.board j) (mark s.board j) (slot new j) (slot s j) (mark_other s.board i stands j ne) (slot_other s i empty_slot j ne)) in
    let carries : Carries s new = record {
      opening = refl;
      frames = refl;
      limits = refl;
      epoch = omega arith;
      moves = λ j. elim (cases_eq j i) [
        | inl e ↦ subst (λ (n : ℕ). Moves (message s n) (message new n)) (sym e) (subst (Moves was) (sym now) (Moves-aborted_as was m ready_not_executed refl))
        | inr ne ↦ Moves-IsLike (message s j) (message new j) (like j ne)
      ];
      stood = λ w row value ended e. elim (cases_eq w.index i) [
        | inl is ↦ absurd (no_value_stands (shelf s row i) w.incarnation value (sym (estimated.0 row) ∙ subst (λ (n : ℕ). finite.get entries (place_of row n) ≡ Some (value_at w.incarnation value)) is e))
        | inr ne ↦ sym (estimated.1 row w.index ne) ∙ e
      ];
      floors = lowered_carries s new i (floor_there s h i there) refl estimated.1;
    } in
    let bound = (h.messages i).incarnation in
    let epoch = h.epoch in
    let one_left = left.0 in
    let epoch_left = left.1 in
    Holds-changed s new i h
    (record {
      carries = carries;
      marks = length-set s.board.marks i stands;
      slots = length-set s.slots i empty_slot;
      floored = length-set s.board.floors (i + 1) (s.board.epoch + 1);
      seated = refl;
      committed = refl;
      past = opened.1;
      like = like;
      same = estimated.1;
      kept = subst (IsKept new i) (sym now) (record {
        incarnation = omega arith;
        sound = λ read d. absurd (Contains-nil read d);
        executed = λ e. absurd (ready_not_executed e);
        estimates = λ ne row x e. estimate_stands (shelf s row i) x (sym (estimated.0 row) ∙ e);
        stamped = λ e. absurd (ready_not_executed e);
      });
      epoch = omega arith;
      floors = λ t. raised_floor s i t h;
      validations = λ seat validation e. inl e;
    })
