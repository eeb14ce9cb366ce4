-- Why a message with a stamp that no floor passes may be committed, though no row is read again.
use Rattle.std.proofs.Common.{◌≡◌, ℕ, zero, suc, ◌<◌, ◌≤◌, ◌+◌, List, [], ◌∷◌, ◌++◌, ◌⊎◌, inl, inr, length, take, Contains, refl, sym, ap, ◌∙◌, subst, Option, Some, None, option_map, Bool, true, false, cond, arith}
use Rattle.std.proofs.lemmas.Bool.{cases_lt}
use Rattle.std.proofs.lemmas.List.{take_more}
use Rattle.std.proofs.lemmas.List.Elements.{recursion_from_All}
use Rattle.std.proofs.lemmas.Option.{same_Some, none-some}
use Rattle.std.specs.FinMap as finite
use Rattle.issuer_rows.proofs.KeyLaws.{key_eq_decides}
use Rattle.issuer_words.specs.Words.{Agrees, Executed, Frame, Reads, RowKey, RowVal, Rows, key_eq, rows_after, rows_after_one, writes_of}
use Rattle.stm_memory.specs.Words.{Resolves, row_under, value_at, written}
use Rattle.stm_core_laws.specs.Words.{AreLogged, ExecutionSlot, Follows, Holds, IsDecidedOn}
use Rattle.stm_core_laws.specs.Words.{IsSoundRead, Log, ResolvesAs, State, empty_slot, logged_in}
use Rattle.stm_core_laws.specs.Words.{message, shelf, slot}
use Rattle.stm_core_laws.specs.declared.logged.Logged.{Logged}
use Rattle.stm_memory.specs.declared.seen.Seen.{Seen}
use Rattle.stm_memory.specs.declared.version.Version.{Version}
use Rattle.stm_memory.specs.declared.seen.Seen.TheVariants.{Base, Value, Estimate}
use Rattle.stm_scheduler.specs.Board.{committed_more, IsFresh}
use Rattle.stm_core_laws.proofs.Carries.{Carries, Carries-quiet, Moves-IsLike, IsLike-refl, kept-carried, validation-carried}
use Rattle.stm_core_laws.proofs.Members.{Contains-head, Contains-tail}
use Rattle.stm_core_laws.proofs.Overlay.{Follows-push, rows_after-push, under_more}

-- the frames up to a committed one
frames_more : (s : State) → Holds s → (k : ℕ) → (d : IsDecidedOn s.opening s.frames (shelf s) k (message s k)) → take (k + 1) s.frames ≡ take k s.frames ++ d.frame ∷ []
frames_more s h k d = take_more s.frames k d.frame d.of_frame.0 ∙ ap (λ (f : Frame). take k s.frames ++ f ∷ []) (sym d.of_frame.1)

-- the first messages that are committed follow the fold
Follows-first : (s : State) → Holds s → (k : ℕ) → k ≤ s.board.committed → Follows s.opening (take k s.slots) (take k s.frames)
Follows-first s h zero l = tt
Follows-first s h (suc k) l =
    let within = h.within in
    let slotted = h.slotted in
    let more : suc k ≡ k + 1 = omega arith in
    let d = h.settled k (omega arith) in
    let below : k < length s.slots = omega arith in
    let one_more : Follows s.opening (take k s.slots ++ slot s k ∷ []) (take k s.frames ++ d.frame ∷ []) =
    Follows-push s.opening (take k s.slots) (take k s.frames) (slot s k) d.frame (Follows-first s h k (omega arith)) d.reply in
    subst (λ (n : ℕ). Follows s.opening (take n s.slots) (take n s.frames)) (sym more)
    (subst (λ (ms : List ExecutionSlot). Follows s.opening ms (take (k + 1) s.frames)) (sym (take_more s.slots k empty_slot below)) (subst (Follows s.opening _) (sym (frames_more s h k d)) one_more))

-- the committed messages follow the fold
pub Follows-settled : (s : State) → Holds s → Follows s.opening (take s.board.committed s.slots) (take s.board.committed s.frames)
Follows-settled s h = Follows-first s h s.board.committed (omega arith)

-- each row after the first messages that are committed is as the next message sees it
under_first : (s : State) → Holds s → (k : ℕ) → k ≤ s.board.committed → (row : RowKey) (seen : Seen) → Resolves (shelf s) row k seen → finite.get (rows_after s.opening (take k s.frames)) row ≡ row_under (finite.get s.opening row) seen
under_first s h zero l row Base is = refl
under_first s h zero l row (Value v value) is = absurd (omega (arith, is.0))
under_first s h zero l row (Estimate at) is = refl
under_first s h (suc k) l row seen is =
    let more : suc k ≡ k + 1 = omega arith in
    let d = h.settled k (omega arith) in
    let rows : Rows = rows_after s.opening (take k s.frames) in
    let after : rows_after s.opening (take (suc k) s.frames) ≡ rows_after_one rows d.frame = ap (λ (n : ℕ). rows_after s.opening (take n s.frames)) more ∙ ap (rows_after s.opening) (frames_more s h k d) ∙ rows_after-push s.opening (take k s.frames) d.frame in
    ap (λ (r : Rows). finite.get r row) after
    ∙ under_more (shelf s) row k (message s k).incarnation rows (writes_of rows d.frame) (finite.get s.opening row) (d.values row) (λ other was. under_first s h k (omega arith) row other was) seen (subst (λ (n : ℕ). Resolves (shelf s) row n seen) more is)

-- each row after the committed messages is as the next message sees it
pub under_committed : (s : State) → Holds s → (row : RowKey) (seen : Seen) → Resolves (shelf s) row s.board.committed seen → finite.get (rows_after s.opening (take s.board.committed s.frames)) row ≡ row_under (finite.get s.opening row) seen
under_committed s h row seen is = under_first s h s.board.committed (omega arith) row seen is

-- a read that resolves as it was logged is of the rows after the committed messages
seen_is_fold : (s : State) → Holds s → (read : RowKey × Logged) → IsSoundRead s read → (origin : Option Version) → read.1.origin ≡ origin → ResolvesAs (shelf s) read.0 s.board.committed origin → finite.get (rows_after s.opening (take s.board.committed s.frames)) read.0 ≡ read.1.value
seen_is_fold s h read sound None is resolves = under_committed s h read.0 Base resolves ∙ sym (sound.base is)
seen_is_fold s h read sound (Some v) is resolves = under_committed s h read.0 (Value v resolves.0) resolves.1 ∙ sym (sound.stands v resolves.0 is resolves.1.1)

-- an answer of a log is that of its first read, or of the reads behind it
found_first : (b : Bool) (read : Logged) (rest : Option Logged) (value : Option RowVal) → option_map (λ (l : Logged). l.value) (cond b (Some read) rest) ≡ Some value → ((b ≡ true) × (read.value ≡ value)) ⊎ (option_map (λ (l : Logged). l.value) rest ≡ Some value)
found_first true read rest value e = inl (refl, same_Some _ _ e)
found_first false read rest value e = inr e

-- what is logged of a row stands in the log
pub logged_in-Some : (log : Log) (row : RowKey) (value : Option RowVal) → logged_in log row ≡ Some value → (read : RowKey × Logged) × Contains log read × (read.0 ≡ row) × (read.1.value ≡ value)
logged_in-Some [] row value e = absurd (none-some value e)
logged_in-Some (read ∷ reads) row value e =
    elim (found_first (key_eq row read.0) read.1 (Rattle.issuer_view.specs.RowSets.value_in reads row) value e) [
      | inl here ↦ (read, Contains-head read reads, sym ((key_eq_decides row read.0).0 here.0), here.1)
      | inr later ↦ let r = logged_in-Some reads row value later in (r.0, Contains-tail read reads r.0 r.1, r.2, r.3)
    ]

-- rows that agree with a log agree with the reads that were logged
pub Agrees-logged : (log : Log) (reads : Reads) (look : RowKey → Option RowVal) → AreLogged log reads → ((read : RowKey × Logged) → Contains log read → look read.0 ≡ read.1.value) → Agrees reads look
Agrees-logged log reads look logged each =
    recursion_from_All (λ read. look read.0 ≡ read.1) reads
    (λ k d l. let r = logged_in-Some log _ _ (logged k d l) in ap look (sym r.2) ∙ each r.0 r.1 ∙ r.3)

-- one more message is committed
pub Holds-committed : (s : State) → Holds s → s.board.committed < length s.frames → IsFresh s.board s.board.committed → Holds (record s { board = committed_more s.board })
Holds-committed s h l is_fresh =
    let k : ℕ = s.board.committed in
    let new : State = record s { board = committed_more s.board } in
    let rows : Rows = rows_after s.opening (take k s.frames) in
    let kept = h.messages k in
    let has = kept.executed is_fresh.0 in
    let x : Executed = has.0 in
    let resolve = (kept.stamped is_fresh.0 is_fresh.1 is_fresh.2).1 is_fresh.3 in
    let agrees : Agrees x.reads (finite.get rows) =
    Agrees-logged (message s k).log x.reads (finite.get rows) has.1.logged
    (λ read c. seen_is_fold s h read (kept.sound read c) read.1.origin refl (resolve c.0 read c.1 (c.1, sym c.2))) in
    let decided = has.1.true_one (finite.get rows) agrees in
    let carries : Carries s new = Carries-quiet s new refl refl refl refl refl refl (λ j. Moves-IsLike (message s j) (message s j) (IsLike-refl (message s j))) in
    record {
      paired = h.paired;
      slotted = h.slotted;
      floored = h.floored;
      seated = h.seated;
      within = omega arith;
      epoch = h.epoch;
      floors = h.floors;
      messages = λ j. kept-carried s new carries j (message s j) (message s j) (IsLike-refl (message s j)) (λ row. refl) (h.messages j);
      validations = λ seat validation e. validation-carried s new carries validation (h.validations seat validation e);
      settled = λ j below. elim (cases_lt j k) [
        | inl before ↦ h.settled j before
        | inr past ↦
            let same : k ≡ j = omega arith in
            subst (λ (n : ℕ). IsDecidedOn s.opening s.frames (shelf s) n (message s n)) same (record {
              frame = x.frame;
              of_frame = has.1.of_frame;
              executed = is_fresh.0;
              reply = has.1.reply ∙ ap Some (sym decided.0);
              values = λ row. has.1.values row ∙ ap (λ ws. option_map (value_at (message s k).incarnation) (written ws row)) (sym decided.1);
            })
      ];
    }
