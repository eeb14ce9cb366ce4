-- What holds stays, where one message changes and the rest is carried over.
use Rattle.std.proofs.Common.{◌≡◌, ◌≢◌, ℕ, ◌<◌, ◌≤◌, List, ◌⊎◌, inl, inr, length, set, refl, sym, ap, ◌∙◌, subst, Option, Some, None, arith, length-set, get_or-set_same, get_or-set_other}
use Rattle.std.proofs.lemmas.Bool.{cases_eq, cases_lt}
use Rattle.std.proofs.lemmas.List.{get_or_past}
use Rattle.issuer_words.specs.Words.{Frame, RowKey, Rows}
use Rattle.stm_scheduler.specs.Board.{Board, floor, fresh_mark, mark, with_mark}
use Rattle.stm_scheduler.specs.declared.message_progress.MessageProgress.{MessageProgress}
use Rattle.stm_scheduler.specs.declared.status.Status.{Status}
use Rattle.stm_memory.specs.Entries.{Shelf}
use Rattle.stm_core_laws.proofs.Carries.{Carries, Carries-quiet, Moves, Moves-IsLike, IsLike, IsLike-refl, IsLike-same, kept-carried, validation-carried}
use Rattle.stm_core_laws.specs.Holds.{Holds, IsKept, IsKeptValidation, IsDecidedOn}
use Rattle.stm_core_laws.specs.State.{State, MessageState, ExecutionSlot, slot, empty_slot, message, message_of, shelf, validation_of, with_slot, with_validation, seats}
use Rattle.stm_core_laws.specs.declared.validation.Validation.{Validation}
use Rattle.stm_scheduler.specs.declared.status.Status.TheVariants as status

-- the statuses are apart
pub ready_not_executed : status.Ready ≢ status.Executed
ready_not_executed e = cc

pub running_not_executed : status.Running ≢ status.Executed
running_not_executed e = cc

pub waiting_not_executed : (on : ℕ) → status.Waiting on ≢ status.Executed
waiting_not_executed on e = cc

pub running_not_ready : status.Running ≢ status.Ready
running_not_ready e = cc

pub executed_not_ready : status.Executed ≢ status.Ready
executed_not_ready e = cc

-- where a message is of one status, it is of no other
pub of_other : (m : MessageState) (is other : Status) → m.status ≡ is → is ≢ other → m.status ≢ other
of_other m is other e ne same = ne (sym e ∙ same)

-- no message stands past the end
pub in_batch : (b : Board) (i : ℕ) → (mark b i).status ≢ status.Ready → i < length b.marks
in_batch b i ne =
    elim (cases_lt i (length b.marks)) [
      | inl l ↦ l
      | inr past ↦ absurd (ne (ap (λ (m : MessageProgress). m.status) (get_or_past b.marks i fresh_mark past)))
    ]

-- where the message that is changed stands, and what is kept of it, is new
pub mark_same : (b : Board) (i : ℕ) (m : MessageProgress) → i < length b.marks → mark (with_mark b i m) i ≡ m
mark_same b i m l = get_or-set_same b.marks i m fresh_mark l

pub slot_same : (s : State) (i : ℕ) (kept : ExecutionSlot) → i < length s.slots → slot (with_slot s i kept) i ≡ kept
slot_same s i kept l = get_or-set_same s.slots i kept empty_slot l

-- the others stay
pub mark_other : (b : Board) (i : ℕ) (m : MessageProgress) (j : ℕ) → j ≢ i → mark (with_mark b i m) j ≡ mark b j
mark_other b i m j ne = get_or-set_other b.marks i j m fresh_mark ne

pub slot_other : (s : State) (i : ℕ) (kept : ExecutionSlot) (j : ℕ) → j ≢ i → slot (with_slot s i kept) j ≡ slot s j
slot_other s i kept j ne = get_or-set_other s.slots i j kept empty_slot ne

-- two messages that stand alike, and of which the same is kept, are one
pub message_by : (m n : MessageProgress) (kept other : ExecutionSlot) → m ≡ n → kept ≡ other → message_of m kept ≡ message_of n other
message_by m n kept other e f = ap (λ (x : MessageProgress). message_of x kept) e ∙ ap (message_of n) f

-- what is not executed is not committed
pub past_committed : (s : State) → Holds s → (i : ℕ) → (message s i).status ≢ status.Executed → s.board.committed ≤ i
past_committed s h i ne = elim (cases_lt i s.board.committed) [ inl l ↦ absurd (ne (h.settled i l).executed) | inr past ↦ past ]

-- a change of the message at i, which carries over all else
pub record Change (s new : State) (i : ℕ) : Type 0 where
  pub carries : Carries s new
  pub marks : length new.board.marks ≡ length s.board.marks
  pub slots : length new.slots ≡ length s.slots
  pub floored : length new.board.floors ≡ length s.board.floors
  pub seated : length new.validations ≡ length s.validations
  pub committed : new.board.committed ≡ s.board.committed
  pub past : s.board.committed ≤ i
  pub like : (j : ℕ) → j ≢ i → IsLike (message s j) (message new j)
  pub same : (row : RowKey) (j : ℕ) → j ≢ i → shelf new row j ≡ shelf s row j
  pub kept : IsKept new i (message new i)
  pub epoch : new.board.epoch ≤ new.limits.epoch
  pub floors : (t : ℕ) → floor new.board t ≤ new.board.epoch
  pub validations : (seat : ℕ) (c : Validation) → validation_of new seat ≡ Some c → (validation_of s seat ≡ Some c) ⊎ IsKeptValidation new c

-- a message that is left alone is decided on the same rows
decided-carried : (opening book : Rows) (frames all : List Frame) (at now : Shelf) (j : ℕ) (m : MessageState) → book ≡ opening → all ≡ frames → ((row : RowKey) → now row j ≡ at row j) → IsDecidedOn opening frames at j m → IsDecidedOn book all now j m
decided-carried opening book frames all at now j m same_book same_frames same h =
    subst (λ (rows : Rows). IsDecidedOn rows all now j m) (sym same_book)
    (subst (λ (fs : List Frame). IsDecidedOn opening fs now j m) (sym same_frames)
    (record { frame = h.frame; of_frame = h.of_frame; executed = h.executed; reply = h.reply; values = λ row. same row ∙ h.values row }))

-- what holds stays
pub Holds-changed : (s new : State) (i : ℕ) → Holds s → Change s new i → Holds new
Holds-changed s new i h ch =
    let c = ch.carries in
    let frames : length new.frames ≡ length s.frames = ap length c.frames in
    let floored = ch.floored in
    let was_floored = h.floored in
    let committed = ch.committed in
    let within = h.within in
    let past = ch.past in
    record {
      paired = ch.marks ∙ h.paired ∙ sym frames;
      slotted = ch.slots ∙ h.slotted ∙ sym frames;
      floored = omega arith;
      seated = ch.seated ∙ h.seated;
      within = omega arith;
      epoch = ch.epoch;
      floors = ch.floors;
      messages = λ j. elim (cases_eq j i) [
        | inl e ↦ subst (λ (n : ℕ). IsKept new n (message new n)) (sym e) ch.kept
        | inr ne ↦ kept-carried s new c j (message s j) (message new j) (ch.like j ne) (λ row. ch.same row j ne) (h.messages j)
      ];
      validations = λ seat validation e. elim (ch.validations seat validation e) [
        | inl old ↦ validation-carried s new c validation (h.validations seat validation old)
        | inr kept ↦ kept
      ];
      settled = λ j l.
          let ne : j ≢ i = omega arith in
          let was = h.settled j (omega arith) in
          subst (λ (m : MessageState). IsDecidedOn new.opening new.frames (shelf new) j m) (sym ((ch.like j ne).3 was.executed))
          (decided-carried s.opening new.opening s.frames new.frames (shelf s) (shelf new) j (message s j) c.opening c.frames (λ row. ch.same row j ne) was);
    }

-- one message changes, and nothing else: it is m then, in these lists of marks and slots
pub Holds-message : (s : State) (marks : List MessageProgress) (slots : List ExecutionSlot) (i : ℕ) (m : MessageState) → Holds s → length marks ≡ length s.board.marks → length slots ≡ length s.slots → message (record s { board = record s.board { marks = marks }; slots = slots }) i ≡ m → ((j : ℕ) → j ≢ i → message (record s { board = record s.board { marks = marks }; slots = slots }) j ≡ message s j) → s.board.committed ≤ i → Moves (message s i) m → IsKept s i m → Holds (record s { board = record s.board { marks = marks }; slots = slots })
Holds-message s marks slots i m h many_marks many_slots now others past moves kept =
    let new : State = record s { board = record s.board { marks = marks }; slots = slots } in
    let carries : Carries s new =
    Carries-quiet s new refl refl refl refl refl refl
    (λ j. elim (cases_eq j i) [
      | inl e ↦ subst (λ (n : ℕ). Moves (message s n) (message new n)) (sym e) (subst (Moves (message s i)) (sym now) moves)
      | inr ne ↦ Moves-IsLike (message s j) (message new j) (IsLike-same (message s j) (message new j) (others j ne))
    ]) in
    Holds-changed s new i h
    (record {
      carries = carries;
      marks = many_marks;
      slots = many_slots;
      floored = refl;
      seated = refl;
      committed = refl;
      past = past;
      like = λ j ne. IsLike-same (message s j) (message new j) (others j ne);
      same = λ row j ne. refl;
      kept = subst (IsKept new i) (sym now) (kept-carried s new carries i m m (IsLike-refl m) (λ row. refl) kept);
      epoch = h.epoch;
      floors = h.floors;
      validations = λ seat validation e. inl e;
    })

-- where one message stands changes
pub Holds-mark : (s : State) (i : ℕ) (m : MessageProgress) → Holds s → i < length s.board.marks → s.board.committed ≤ i → Moves (message s i) (message_of m (slot s i)) → IsKept s i (message_of m (slot s i)) → Holds (record s { board = with_mark s.board i m })
Holds-mark s i m h l past moves kept =
    Holds-message s (set s.board.marks i m) s.slots i (message_of m (slot s i)) h (length-set s.board.marks i m) refl
    (message_by (mark (with_mark s.board i m) i) m (slot s i) (slot s i) (mark_same s.board i m l) refl)
    (λ j ne. message_by (mark (with_mark s.board i m) j) (mark s.board j) (slot s j) (slot s j) (mark_other s.board i m j ne) refl)
    past moves kept

-- what is kept of one message changes
pub Holds-slot : (s : State) (i : ℕ) (k : ExecutionSlot) → Holds s → i < length s.board.marks → s.board.committed ≤ i → Moves (message s i) (message_of (mark s.board i) k) → IsKept s i (message_of (mark s.board i) k) → Holds (with_slot s i k)
Holds-slot s i k h l past moves kept =
    let there : i < length s.slots = let paired = h.paired in let slotted = h.slotted in omega arith in
    Holds-message s s.board.marks (set s.slots i k) i (message_of (mark s.board i) k) h refl (length-set s.slots i k)
    (message_by (mark s.board i) (mark s.board i) (slot (with_slot s i k) i) k refl (slot_same s i k there))
    (λ j ne. message_by (mark s.board j) (mark s.board j) (slot (with_slot s i k) j) (slot s j) refl (slot_other s i k j ne))
    past moves kept

-- both change
pub Holds-both : (s : State) (i : ℕ) (m : MessageProgress) (k : ExecutionSlot) → Holds s → i < length s.board.marks → s.board.committed ≤ i → Moves (message s i) (message_of m k) → IsKept s i (message_of m k) → Holds (record (with_slot s i k) { board = with_mark s.board i m })
Holds-both s i m k h l past moves kept =
    let there : i < length s.slots = let paired = h.paired in let slotted = h.slotted in omega arith in
    Holds-message s (set s.board.marks i m) (set s.slots i k) i (message_of m k) h (length-set s.board.marks i m) (length-set s.slots i k)
    (message_by (mark (with_mark s.board i m) i) m (slot (with_slot s i k) i) k (mark_same s.board i m l) (slot_same s i k there))
    (λ j ne. message_by (mark (with_mark s.board i m) j) (mark s.board j) (slot (with_slot s i k) j) (slot s j) (mark_other s.board i m j ne) (slot_other s i k j ne))
    past moves kept

-- a seat's validation changes, and nothing else
pub Holds-validation : (s : State) (seat : ℕ) (validation : Option Validation) → Holds s → seat < seats → ((c : Validation) → validation ≡ Some c → IsKeptValidation s c) → Holds (with_validation s seat validation)
Holds-validation s seat validation h l kept =
    let new : State = with_validation s seat validation in
    let carries : Carries s new = Carries-quiet s new refl refl refl refl refl refl (λ j. Moves-IsLike (message s j) (message s j) (IsLike-refl (message s j))) in
    let seated = h.seated in
    Holds-changed s new s.board.committed h
    (record {
      carries = carries;
      marks = refl;
      slots = refl;
      floored = refl;
      seated = length-set s.validations seat validation;
      committed = refl;
      past = omega arith;
      like = λ j ne. IsLike-refl (message s j);
      same = λ row j ne. refl;
      kept = kept-carried s new carries s.board.committed (message s s.board.committed) (message s s.board.committed) (IsLike-refl (message s s.board.committed)) (λ row. refl) (h.messages s.board.committed);
      epoch = h.epoch;
      floors = h.floors;
      validations = λ other c e. elim (cases_eq other seat) [
        | inl is ↦ inr (validation-carried s new carries c (kept c (sym (get_or-set_same s.validations seat validation None (omega arith)) ∙ subst (λ (n : ℕ). validation_of new n ≡ Some c) is e)))
        | inr ne ↦ inl (sym (get_or-set_other s.validations seat other validation None ne) ∙ e)
      ];
    })
