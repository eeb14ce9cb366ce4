-- Each call of the core is a step.
use Rattle.std.proofs.Common.{◌≡◌, ◌≢◌, ℕ, ◌<◌, ◌≤◌, ◌+◌, ◌^◌, min, Bool, true, false, not, ◌&&◌, nat_lt, nat_eq, if◌then◌else◌, List, [], ◌∷◌, ◌++◌, ◌⊎◌, inl, inr, length, map, max, replicate, take, filter_map, option_to_list, set, get_or, slice_get, option_map, refl, sym, ap, ap₂, ◌∙◌, subst, Option, Some, None, Ok, IsTrue, IsFalse, arith, eq-eqb}
use Rattle.std.proofs.lemmas.Bool.{cases_lt, cases_eq, false≢true}
use Rattle.std.proofs.lemmas.List.{get_or_read, set-get_or, take_more}
use Rattle.std.proofs.lemmas.List.Elements.{filter_map-append}
use Rattle.std.specs.FinMap as finite
use Rattle.std.specs.List.{cons_option}
use Rattle.std.proofs.lemmas.Option.{slice_get_within, get_or_from_slice_get, none-some}
use Rattle.issuer_words.specs.Words.{Executed, Frame, IsTrueExecution, Reads, ReplyBody, RowKey, RowVal, Rows}
use Rattle.issuer_view.specs.Words.{value_in}
use Rattle.stm_memory.specs.Words.{AreEstimated, AreReplaced, Entries, IsNewLocation, Resolves}
use Rattle.stm_core_laws.specs.Words.{AreLogged, Begin, Block, Call, ClaimStep, Commit, CommitStep}
use Rattle.stm_core_laws.specs.Words.{End, ExecutionSlot, Finish, Holds, IsAt, IsOfVersion, Log}
use Rattle.stm_core_laws.specs.Words.{Play, PlayStep, ReadStep, ResolvesAs, Seen, State}
use Rattle.stm_core_laws.specs.Words.{ValidateOne, Version, beginning, empty_slot, failed_one}
use Rattle.stm_core_laws.specs.Words.{is_at_end, logged_in, logged_of, passed_one, seats, shelf}
use Rattle.stm_core_laws.specs.Words.{slot, start, validation_of, with_slot, with_validation}
use Rattle.stm_core_laws.specs.declared.limits.Limits.{Limits}
use Rattle.stm_core_laws.specs.declared.logged.Logged.{Logged}
use Rattle.stm_core_laws.specs.declared.validation.Validation.{Validation}
use Rattle.stm_scheduler.proofs.Choices.{Chooses-allowed}
use Rattle.stm_scheduler.specs.Board.{Board, mark, aborted_as, finished, lowered, passed, aborted, committed_more, IsFresh, IsRunning, IsOpen, IsWaitedFor}
use Rattle.stm_scheduler.specs.Cursors.{Schedule, Claims, IsLoweredToWaiting, open_schedule}
use Rattle.stm_scheduler.specs.declared.status.Status.TheVariants as status
use Rattle.stm_scheduler.specs.declared.task.Task.{Task}
use Rattle.stm_scheduler.specs.declared.task.Task.TheVariants.{Execute, Validate, Idle, Done}
use Rattle.stm_core_laws.proofs.Changed.{in_batch, executed_not_ready}
use Rattle.stm_core_laws.proofs.Logs.{executed_cases}
use Rattle.stm_core_laws.proofs.Validations.{at_its_end, next_read_there}
use Rattle.stm_core_laws.proofs.Reached.{Holds-reached, IsReached-start, IsReached-Step, same-Step}
use Rattle.stm_core_laws.specs.declared.got.Got.TheVariants as got
use Rattle.stm_core.specs.Origin.{IsFirstOf}
use Rattle.stm_core.specs.Sound.{IsSoundCore}

-- a step of a core keeps what holds of it
pub sound_kept : (old : Play) (call : Call) (new : Play) → IsSoundCore old.state → PlayStep old call new → IsSoundCore new.state
sound_kept old call new sound step =
    let same = same-Step old.state call new.state step.0 in
    let reached = IsReached-Step old.state call new.state sound.reached step.0 in
    record {
      reached = reached;
      holds = Holds-reached new.state reached;
      few = subst (λ (frames : List Frame). length frames ≤ 65536) (sym same.1) sound.few;
      incarnation = subst (λ (limits : Limits). limits.incarnation < 2 ^ 32) (sym same.2) sound.incarnation;
      epoch = subst (λ (limits : Limits). limits.epoch < 2 ^ 64) (sym same.2) sound.epoch;
    }

-- as it is called: on this core, at this seat
pub as_called : (was old new : Play) (call : ℕ → Call) (n seat : ℕ) → was ≡ old → n ≡ seat → PlayStep was (call n) new → PlayStep old (call seat) new
as_called was old new call n seat view number step =
    subst (λ (p : Play). PlayStep p (call seat) new) view (subst (λ (m : ℕ). PlayStep was (call m) new) number step)

-- a call that is refused, which changes nothing
pub refused_as_called : (was old : Play) (call : ℕ → Call) (n seat : ℕ) → was ≡ old → n ≡ seat → PlayStep was (call n) was → PlayStep old (call seat) old
refused_as_called was old call n seat view number step =
    subst (λ (p : Play). PlayStep p (call seat) p) view (subst (λ (m : ℕ). PlayStep was (call m) was) number step)

-- what is kept of a message of the board, as it was read
pub at_slot : (s : State) → Holds s → (i : ℕ) (kept : ExecutionSlot) → i < length s.board.marks → kept ≡ get_or s.slots i kept → kept ≡ slot s i
at_slot s holds i kept l is = let paired = holds.paired in let slotted = holds.slotted in get_or_read s.slots i kept (omega arith) is empty_slot

-- what the scheduler hands out may be handed out
pub claim_step : (s : State) → Holds s → (e v : ℕ) (answer : Task) (after : Schedule) → Claims (record { board = s.board; execution = e; validation = v }) answer after → ClaimStep s answer (record s { board = after.board })
claim_step s holds e v Done after claims =
    let paired = holds.paired in
    (claims.0 ∙ paired, ap (λ (c : Schedule). record s { board = c.board }) claims.1)
claim_step s holds e v (Execute w) after claims =
    let paired = holds.paired in
    let allowed = Chooses-allowed s.board e v (Execute w) after.execution after.validation claims.1 in
    (λ all. claims.0 (all ∙ sym paired), allowed.0, allowed.1, ap (λ (b : Board). record s { board = b }) claims.2)
claim_step s holds e v (Validate w) after claims =
    let paired = holds.paired in
    (λ all. claims.0 (all ∙ sym paired), Chooses-allowed s.board e v (Validate w) after.execution after.validation claims.1, ap (λ (b : Board). record s { board = b }) claims.2)
claim_step s holds e v Idle after claims =
    let paired = holds.paired in
    (λ all. claims.0 (all ∙ sym paired), ap (λ (c : Schedule). record s { board = c.board }) claims.2)

-- a row that wasn't logged is logged as it is seen
pub read_step : (s : State) → Holds s → (v : Version) (row : RowKey) (seen : Seen) (logged : Logged) (kept after : ExecutionSlot) → IsRunning s.board v → v.index < length s.board.marks → kept ≡ get_or s.slots v.index kept → logged_in kept.log row ≡ None → Resolves (shelf s) row v.index seen → logged_of s.opening row seen ≡ Some logged → after ≡ record kept { log = kept.log ++ (row, logged) ∷ [] } → ReadStep s v row (Ok (got.Row logged.value)) (record s { slots = set s.slots v.index after })
read_step s holds v row seen logged kept after running l is none resolves gives change =
    let here : kept ≡ slot s v.index = at_slot s holds v.index kept l is in (
      running,
      inr (
        seen,
        logged,
        (subst (λ (k : ExecutionSlot). logged_in k.log row ≡ None) here none, resolves),
        gives,
        refl,
        ap (with_slot s v.index) (change ∙ ap (λ (k : ExecutionSlot). record k { log = k.log ++ (row, logged) ∷ [] }) here),
      ),
    )

-- what the scheduler answers to a commit is a step
pub commit_step : (s : State) → Holds s → (answer : Bool) (after : Board) → (IsTrue answer → IsFresh s.board s.board.committed × (after ≡ committed_more s.board)) → (IsFalse answer → ¬ IsFresh s.board s.board.committed × (after ≡ s.board)) → CommitStep s answer (record s { board = after })
commit_step s holds true after fresh otherwise =
    let f = fresh refl in
    let l = in_batch s.board s.board.committed (λ ready. executed_not_ready (sym f.0.0 ∙ ready)) in
    let paired = holds.paired in
    (omega arith, f.0, ap (λ (b : Board). record s { board = b }) f.1)
commit_step s holds false after fresh otherwise =
    let o = otherwise refl in
    (λ h. o.0 h.1, ap (λ (b : Board). record s { board = b }) o.1)

-- a core with these cursors
abbrev pub play : State → ℕ → ℕ → Play
play s e x = record { state = s; execution = e; validation = x }

-- a message waits for another, or not
waited_cases : (b : Board) (i on : ℕ) → IsWaitedFor b i on ⊎ ¬ IsWaitedFor b i on
waited_cases b i on =
    elim (cases_lt on i) [
      | inl before ↦ elim (executed_cases (mark b on).status) [ inl done ↦ inr (λ w. w.1 done) | inr open_one ↦ inl (before, open_one) ]
      | inr past ↦ inr (λ w. let l = w.0 in omega arith)
    ]

-- what the scheduler does with a version that is aborted is a step
pub block_step : (s : State) (e x : ℕ) (v : Version) (on : ℕ) (new : Schedule) (after : ExecutionSlot) → IsRunning s.board v → v.incarnation ≢ s.limits.incarnation
    → (IsWaitedFor s.board v.index on → new ≡ record { board = aborted_as s.board v.index (status.Waiting on); execution = e; validation = x })
    → (¬ IsWaitedFor s.board v.index on → new ≡ record { board = aborted_as s.board v.index status.Ready; execution = min e v.index; validation = x })
    → after ≡ empty_slot
    → PlayStep (play s e x) (Block v on (Ok tt)) (play (record s { board = new.board; slots = set s.slots v.index after }) new.execution new.validation)
block_step s e x v on new after running left waits ready cleared =
    let same : (b : Board) → new.board ≡ b → record s { board = new.board; slots = set s.slots v.index after } ≡ record s { board = b; slots = set s.slots v.index empty_slot } = λ b is. ap₂ (λ (c : Board) (k : ExecutionSlot). record s { board = c; slots = set s.slots v.index k }) is cleared in (
      (
        running,
        (λ last. left (sym running.1 ∙ last)),
        elim (waited_cases s.board v.index on) [
          | inl w ↦ inl (w, same _ (ap (λ (c : Schedule). c.board) (waits w)))
          | inr n ↦ inr (n, same _ (ap (λ (c : Schedule). c.board) (ready n)))
        ],
      ),
      (
        (λ w. ap (λ (c : Schedule). c.execution) (waits w)),
        (λ n. ap (λ (c : Schedule). c.execution) (ready n)),
        elim (waited_cases s.board v.index on) [
          | inl w ↦ ap (λ (c : Schedule). c.validation) (waits w)
          | inr n ↦ ap (λ (c : Schedule). c.validation) (ready n)
        ],
      ),
    )

-- what a version that finishes leaves is a step
pub finish_step : (s : State) (e x : ℕ) (v : Version) (execution : Executed) (is_new handed : Bool) (entries : Entries) (new : Schedule) (kept after : ExecutionSlot) → IsTrueExecution execution → IsRunning s.board v → IsOfVersion s v execution → kept ≡ slot s v.index
    → AreReplaced v execution.writes s.entries entries → (IsTrue is_new → IsNewLocation s.entries v.index execution.writes) → (IsNewLocation s.entries v.index execution.writes → IsTrue is_new)
    → (IsNewLocation s.entries v.index execution.writes → s.board.epoch ≢ s.limits.epoch)
    → new.board ≡ (if is_new then lowered (finished s.board v.index) v.index else finished s.board v.index)
    → IsLoweredToWaiting s.board.marks v.index e new.execution → new.validation ≡ (if is_new then min x v.index else x) → handed ≡ (not is_new && nat_lt v.index x)
    → after ≡ record kept { reply = Some execution.reply }
    → PlayStep (play s e x) (Finish v execution (Ok handed)) (play (record s { board = new.board; entries = entries; slots = set s.slots v.index after }) new.execution new.validation)
finish_step s e x v execution true handed entries new kept after true_one running of_version here replaced is_so only left board lowers validation out change =
    let location = is_so refl in (
      (
        true_one,
        (
          running,
          of_version,
          (
            entries,
            replaced,
            inl (
              location,
              left location,
              out,
              ap₂ (λ (b : Board) (k : ExecutionSlot). record s { board = b; entries = entries; slots = set s.slots v.index k }) board (change ∙ ap (λ (k : ExecutionSlot). record k { reply = Some execution.reply }) here),
            ),
          ),
        ),
      ),
      (lowers, (λ n. (out, validation)), (λ none. absurd (none location))),
    )
finish_step s e x v execution false handed entries new kept after true_one running of_version here replaced is_so only left board lowers validation out change =
    let none : ¬ IsNewLocation s.entries v.index execution.writes = λ n. false≢true (only n) in (
      (
        true_one,
        (
          running,
          of_version,
          (
            entries,
            replaced,
            inr (
              none,
              ap₂ (λ (b : Board) (k : ExecutionSlot). record s { board = b; entries = entries; slots = set s.slots v.index k }) board (change ∙ ap (λ (k : ExecutionSlot). record k { reply = Some execution.reply }) here),
            ),
          ),
        ),
      ),
      (lowers, (λ n. absurd (none n)), (λ n. (out, validation))),
    )

-- a validation begins
pub begin_step : (s : State) (e x seat : ℕ) (v : Version) (kept : ExecutionSlot) (validation : Validation) → seat < seats → IsOpen s.board v → kept ≡ slot s v.index → validation ≡ record { version = v; began = s.board.epoch; place = 0; reads = length kept.log; failed = false }
    → PlayStep (play s e x) (Begin seat v (Ok (is_at_end validation))) (play (record s { validations = set s.validations seat (Some validation) }) e x)
begin_step s e x seat v kept validation l opened here is =
    let same : validation ≡ beginning s v = is ∙ ap (λ (k : ExecutionSlot). record { version = v; began = s.board.epoch; place = 0; reads = length k.log; failed = false }) here in
    ((l, (opened, ap is_at_end same, ap (λ (c : Validation). with_validation s seat (Some c)) same)), (refl, refl))

-- the read that stands at a place of a log
pub read_at : (log : Log) (k : ℕ) (origin : RowKey × Option Version × ℕ) → IsFirstOf (slice_get log k) origin → (read : RowKey × Logged) × IsAt log k read × (origin.0 ≡ read.0) × (origin.1 ≡ read.1.origin)
read_at log k origin is =
    elim (slice_get log k) as (λ o. slice_get log k ≡ o → IsFirstOf o origin → (read : RowKey × Logged) × IsAt log k read × (origin.0 ≡ read.0) × (origin.1 ≡ read.1.origin)) [
      | None ↦ λ none f. absurd f
      | Some read ↦ λ some f. (read, (slice_get_within log k read some, sym (get_or_from_slice_get log k read read some)), f.0, f.1)
    ] refl is

-- a validation goes one read on
pub validation_step : (s : State) (e x seat : ℕ) (c next : Validation) (kept : ExecutionSlot) (origin : RowKey × Option Version × ℕ) (stays : Bool) → seat < seats → validation_of s seat ≡ Some c → is_at_end c ≡ false → IsOpen s.board c.version → kept ≡ slot s c.version.index → IsFirstOf (slice_get kept.log c.place) origin
    → (IsTrue stays → ResolvesAs (shelf s) origin.0 c.version.index origin.1) → (ResolvesAs (shelf s) origin.0 c.version.index origin.1 → IsTrue stays) → next ≡ (if stays then passed_one c else failed_one c)
    → PlayStep (play s e x) (ValidateOne seat (Ok (is_at_end next))) (play (record s { validations = set s.validations seat (Some next) }) e x)
validation_step s e x seat c next kept origin true l has ended opened here at is_so only is =
    let read = read_at kept.log c.place origin at in
    let there : IsAt (slot s c.version.index).log c.place read.0 = subst (λ (k : ExecutionSlot). IsAt k.log c.place read.0) here read.1 in
    let resolves : ResolvesAs (shelf s) read.0.0 c.version.index read.0.1.origin = subst (λ (r : RowKey). ResolvesAs (shelf s) r c.version.index read.0.1.origin) read.2 (subst (λ (o : Option Version). ResolvesAs (shelf s) origin.0 c.version.index o) read.3 (is_so refl)) in
    ((l, (c, next, (has, ended), opened, (read.0, there, inl (resolves, is)), refl, refl)), (refl, refl))
validation_step s e x seat c next kept origin false l has ended opened here at is_so only is =
    let read = read_at kept.log c.place origin at in
    let there : IsAt (slot s c.version.index).log c.place read.0 = subst (λ (k : ExecutionSlot). IsAt k.log c.place read.0) here read.1 in
    let fails : ¬ ResolvesAs (shelf s) read.0.0 c.version.index read.0.1.origin = λ r. false≢true (only (subst (λ (w : RowKey). ResolvesAs (shelf s) w c.version.index origin.1) (sym read.2) (subst (λ (o : Option Version). ResolvesAs (shelf s) read.0.0 c.version.index o) (sym read.3) r))) in
    ((l, (c, next, (has, ended), opened, (read.0, there, inr (fails, is)), refl, refl)), (refl, refl))

-- a validation that passed is closed
pub pass_step : (s : State) (e x seat : ℕ) (c : Validation) (new : Schedule) → seat < seats → validation_of s seat ≡ Some c → is_at_end c ≡ true → IsOpen s.board c.version → c.failed ≡ false → new ≡ record { board = passed s.board c.version.index c.began; execution = e; validation = x }
    → PlayStep (play s e x) (End seat (Ok true)) (play (record s { board = new.board; validations = set s.validations seat None }) new.execution new.validation)
pass_step s e x seat c new l has ended opened passes is =
    ((l, (c, (has, ended), opened, passes, ap (λ (n : Schedule). record s { board = n.board; validations = set s.validations seat None }) is)), (ap (λ (n : Schedule). n.execution) is, ap (λ (n : Schedule). n.validation) is))

-- a validation that failed is closed, and the execution is aborted
pub fail_step : (s : State) (e x seat : ℕ) (c : Validation) (entries : Entries) (new : Schedule) (after : ExecutionSlot) → seat < seats → validation_of s seat ≡ Some c → is_at_end c ≡ true → IsOpen s.board c.version → c.failed ≡ true → c.version.incarnation ≢ s.limits.incarnation → s.board.epoch ≢ s.limits.epoch → AreEstimated c.version.index s.entries entries
    → new ≡ record { board = aborted s.board c.version.index; execution = min e c.version.index; validation = min x (c.version.index + 1) } → after ≡ empty_slot
    → PlayStep (play s e x) (End seat (Ok false)) (play (record s { board = new.board; entries = entries; slots = set s.slots c.version.index after; validations = set s.validations seat None }) new.execution new.validation)
fail_step s e x seat c entries new after l has ended opened fails left epoch estimated is cleared = (
  (
    l,
    (
      c,
      (has, ended),
      opened,
      fails,
      ((λ last. left (sym opened.0.1 ∙ last)), epoch),
      (
        entries,
        estimated,
        ap₂ (λ (n : Schedule) (k : ExecutionSlot). record s { board = n.board; entries = entries; slots = set s.slots c.version.index k; validations = set s.validations seat None }) is cleared,
      ),
    ),
  ),
  (c, has, ap (λ (n : Schedule). n.execution) is, ap (λ (n : Schedule). n.validation) is),
)

-- an open validation that is not at its end has a read that comes next
pub next_there : (s : State) → Holds s → (seat : ℕ) (c : Validation) → validation_of s seat ≡ Some c → is_at_end c ≡ false → IsOpen s.board c.version → c.place < length (slot s c.version.index).log
next_there s holds seat c has ended opened = next_read_there s holds seat c (has, ended) opened

-- and its place is before the end
pub before_end : (s : State) → Holds s → (seat : ℕ) (c : Validation) → validation_of s seat ≡ Some c → is_at_end c ≡ false → c.place < c.reads
before_end s holds seat c has ended =
    let within = (holds.validations seat c has).within in
    elim (cases_eq c.place c.reads) [
      | inl same ↦ absurd (false≢true (sym ended ∙ at_its_end c.failed (nat_eq c.place c.reads) (eq-eqb c.place c.reads same)))
      | inr ne ↦ omega arith
    ]

-- what the scheduler answers to a commit is a step, which moves no cursor
pub commit_play : (s : State) → Holds s → (e x : ℕ) (answer : Bool) (new : Schedule)
    → (IsTrue answer → IsFresh s.board s.board.committed × (new ≡ record { board = committed_more s.board; execution = e; validation = x }))
    → (IsFalse answer → ¬ IsFresh s.board s.board.committed × (new ≡ record { board = s.board; execution = e; validation = x }))
    → PlayStep (play s e x) (Commit answer) (play (record s { board = new.board }) new.execution new.validation)
commit_play s holds e x true new fresh otherwise =
    let f = fresh refl in
    (commit_step s holds true new.board (λ _. (f.0, ap (λ (n : Schedule). n.board) f.1)) (λ wrong. absurd (false≢true (sym wrong))), (ap (λ (n : Schedule). n.execution) f.1, ap (λ (n : Schedule). n.validation) f.1))
commit_play s holds e x false new fresh otherwise =
    let o = otherwise refl in
    (commit_step s holds false new.board (λ wrong. absurd (false≢true wrong)) (λ _. (o.0, ap (λ (n : Schedule). n.board) o.1)), (ap (λ (n : Schedule). n.execution) o.1, ap (λ (n : Schedule). n.validation) o.1))

-- a slot that is kept as it was changes nothing
pub slot_back : (s : State) (i : ℕ) (kept after : ExecutionSlot) → kept ≡ get_or s.slots i kept → after ≡ kept → record s { slots = set s.slots i after } ≡ s
slot_back s i kept after is same =
    ap (λ (slots : List ExecutionSlot). record s { slots = slots }) (ap (set s.slots i) (same ∙ is) ∙ set-get_or s.slots i kept)

-- what was not found in the log of a version is not logged by it
pub unlogged : (s : State) → Holds s → (v : Version) (row : RowKey) (kept : ExecutionSlot) (found : Option (Option RowVal)) → v.index < length s.board.marks → kept ≡ get_or s.slots v.index kept → found ≡ logged_in kept.log row → found ≡ None → logged_in (slot s v.index).log row ≡ None
unlogged s holds v row kept found l is gives none =
    ap (λ (k : ExecutionSlot). logged_in k.log row) (sym (at_slot s holds v.index kept l is)) ∙ sym gives ∙ none

-- nor does it stand there
pub not_in : (log : Log) (row : RowKey) → logged_in log row ≡ None → value_in log row ≡ None
not_in log row none =
    elim (value_in log row) as (λ o. option_map (λ (l : Logged). l.value) o ≡ None → o ≡ None) [
      | None ↦ λ e. refl
      | Some logged ↦ λ e. absurd (none-some logged.value (sym e))
    ] none

-- what was tested of an execution that is handed in
pub of_version : (s : State) (v : Version) (x : Executed) (frames : List Frame) (frame : Frame) (kept : ExecutionSlot) (reads : Reads) → frames ≡ s.frames → frame ≡ x.frame → IsAt frames v.index frame → kept ≡ slot s v.index → reads ≡ x.reads → AreLogged kept.log reads → IsOfVersion s v x
of_version s v x frames frame kept reads same_frames same_frame at here same_reads logged = (
  subst (IsAt s.frames v.index) same_frame (subst (λ (fs : List Frame). IsAt fs v.index frame) same_frames at),
  subst (AreLogged (slot s v.index).log) same_reads (subst (λ (k : ExecutionSlot). AreLogged k.log reads) here logged),
)

-- and what was found missing
pub not_of_version : (s : State) (v : Version) (x : Executed) (kept : ExecutionSlot) (reads : Reads) → kept ≡ slot s v.index → reads ≡ x.reads → ¬ AreLogged kept.log reads → ¬ IsOfVersion s v x
not_of_version s v x kept reads here same_reads unanswered of =
    unanswered (subst (λ (k : ExecutionSlot). AreLogged k.log reads) (sym here) (subst (AreLogged (slot s v.index).log) (sym same_reads) of.1))

-- what was read at a seat is its validation
pub at_seat : (s : State) → Holds s → (seat : ℕ) (found : Option Validation) (c : Validation) → seat < seats → found ≡ get_or s.validations seat found → found ≡ Some c → validation_of s seat ≡ Some c
at_seat s holds seat found c l is some = let seated = holds.seated in sym (get_or_read s.validations seat found (omega arith) is None) ∙ some

-- a core over copies, in which nothing was done, is in its opening state
pub opened_state : (book : Rows) (frames : List Frame) (limits : Limits) (opening : Rows) (copies : List Frame) (entries : Entries) (new : Schedule) (slots : List ExecutionSlot) (epoch : ℕ) (validations : List (Option Validation))
    → opening ≡ book → copies ≡ frames → entries ≡ finite.empty → new ≡ open_schedule (length frames) → slots ≡ map (λ _. empty_slot) frames → epoch ≡ max 1 limits.epoch → validations ≡ replicate seats None
    → record { opening = opening; frames = copies; entries = entries; board = new.board; slots = slots; limits = record { incarnation = limits.incarnation; epoch = epoch }; validations = validations } ≡ start book frames limits
opened_state book frames limits opening copies entries new slots epoch validations a b c d e f g =
    λ i. record { opening = a i; frames = b i; entries = c i; board = (d i).board; slots = e i; limits = record { incarnation = limits.incarnation; epoch = f i }; validations = g i }

-- and what holds of a core holds of it
pub sound_at_start : (book : Rows) (frames : List Frame) (limits : Limits) (s : State) → s ≡ start book frames limits → length frames ≤ 65536 → limits.incarnation < 2 ^ 32 → max 1 limits.epoch < 2 ^ 64 → IsSoundCore s
sound_at_start book frames limits s is few incarnation epoch =
    let reached = IsReached-start book frames limits in
    subst IsSoundCore (sym is) (record { reached = reached; holds = Holds-reached (start book frames limits) reached; few = few; incarnation = incarnation; epoch = epoch })

-- a list of one reply, or of none
as_list : (o : Option ReplyBody) → option_to_list o ≡ cons_option o []
as_list None = refl
as_list (Some x) = refl

-- the replies of one more slot
pub replies-more : (before after : List ReplyBody) (slots : List ExecutionSlot) (k : ℕ) (kept : ExecutionSlot) → k < length slots → kept ≡ get_or slots k kept → before ≡ filter_map (λ s. s.reply) (take k slots) → after ≡ before ++ option_to_list kept.reply → after ≡ filter_map (λ s. s.reply) (take (k + 1) slots)
replies-more before after slots k kept l is so_far more =
    more
    ∙ ap (λ (rs : List ReplyBody). rs ++ option_to_list kept.reply) so_far
    ∙ ap (λ (rs : List ReplyBody). filter_map (λ (s : ExecutionSlot). s.reply) (take k slots) ++ rs) (as_list kept.reply)
    ∙ sym (filter_map-append (λ (s : ExecutionSlot). s.reply) (take k slots) (kept ∷ []))
    ∙ ap (filter_map (λ (s : ExecutionSlot). s.reply)) (ap (λ (s : ExecutionSlot). take k slots ++ s ∷ []) is ∙ sym (take_more slots k kept l))
