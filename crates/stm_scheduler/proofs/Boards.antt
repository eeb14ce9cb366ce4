-- A schedule stays sound where the message of one of its versions changes, and its highest floor stays the highest.
use Rattle.std.proofs.Common.{◌≡◌, ◌≢◌, ℕ, ◌≤◌, ◌<◌, ◌+◌, max, List, Option, None, inl, inr, length, get_or, set, map, replicate, refl, sym, ap, ◌∙◌, subst, arith, length-set, get_or-set_other, get_or-set_same}
use Rattle.std.proofs.lemmas.Bool.{cases_lt, cases_eq}
use Rattle.std.proofs.lemmas.List.{get_or_past, get_or-replicate}
use Rattle.std.proofs.Math.ListN.{length-replicate}
use Rattle.stm_scheduler.proofs.Lists.{at, at-woken, lists_changed}
use Rattle.stm_memory.specs.declared.version.Version.{Version}
use Rattle.stm_scheduler.proofs.Choices.{Chooses-allowed}
use Rattle.stm_scheduler.specs.Board.{Board, IsReady, floor, fresh_mark, mark, woken, woken_status}
use Rattle.stm_scheduler.specs.Cursors.{Chooses, IsLoweredToWaiting, Schedule, open_schedule}
use Rattle.stm_scheduler.specs.Sound.{AreWaitLists, IsHighest, IsSound}
use Rattle.stm_scheduler.specs.declared.message_progress.MessageProgress.{MessageProgress}
use Rattle.stm_scheduler.specs.declared.task.Task.{Task}
use Rattle.stm_scheduler.specs.declared.task.Task.TheVariants as task
use Rattle.stm_scheduler.specs.declared.status.Status.TheVariants as status

running_executed : status.Running ≡ status.Executed → ⊥
running_executed e = cc

pub running_waits : (on : ℕ) → status.Running ≡ status.Waiting on → ⊥
running_waits on e = cc

pub executed_waits : (on : ℕ) → status.Executed ≡ status.Waiting on → ⊥
executed_waits on e = cc

pub ready_waits : (on : ℕ) → status.Ready ≡ status.Waiting on → ⊥
ready_waits on e = cc

ready_running : status.Ready ≡ status.Running → ⊥
ready_running e = cc

ready_executed : status.Ready ≡ status.Executed → ⊥
ready_executed e = cc

-- a message of another status than ready is there
pub there : (marks : List MessageProgress) (i : ℕ) → ((at marks i).status ≡ status.Ready → ⊥) → i < length marks
there marks i not_ready =
    elim (cases_lt i (length marks)) [ inl l ↦ l | inr past ↦ absurd (not_ready (ap (λ (m : MessageProgress). m.status) (get_or_past marks i fresh_mark past))) ]

pub running_there : (marks : List MessageProgress) (i : ℕ) → (at marks i).status ≡ status.Running → i < length marks
running_there marks i running = there marks i (λ e. ready_running (sym e ∙ running))

pub executed_there : (marks : List MessageProgress) (i : ℕ) → (at marks i).status ≡ status.Executed → i < length marks
executed_there marks i executed = there marks i (λ e. ready_executed (sym e ∙ executed))

-- a running message is not committed
pub running_past : (s : Schedule) (firsts nexts : List (Option ℕ)) (i : ℕ) → IsSound s firsts nexts → (mark s.board i).status ≡ status.Running → s.board.committed ≤ i
running_past s firsts nexts i h running = elim (cases_lt i s.board.committed) [ inl l ↦ absurd (running_executed (sym running ∙ h.settled i l)) | inr past ↦ past ]

-- nor is a ready one
pub ready_past : (s : Schedule) (firsts nexts : List (Option ℕ)) (i : ℕ) → IsSound s firsts nexts → (mark s.board i).status ≡ status.Ready → s.board.committed ≤ i
ready_past s firsts nexts i h ready = elim (cases_lt i s.board.committed) [ inl l ↦ absurd (ready_executed (sym ready ∙ h.settled i l)) | inr past ↦ past ]

-- the parts of a schedule that are sound, for a board with these marks
pub sound_with : (s : Schedule) (firsts nexts heads links : List (Option ℕ)) (marks : List MessageProgress) (floors : List ℕ) (epoch execution validation : ℕ) → IsSound s firsts nexts → length marks ≡ length s.board.marks → length floors ≡ length s.board.floors → length heads ≡ length firsts → length links ≡ length nexts → execution ≤ s.execution → validation ≤ s.validation → ((i : ℕ) → i < s.board.committed → (at marks i).status ≡ status.Executed) → AreWaitLists marks heads links → IsSound (record { board = record { marks = marks; floors = floors; epoch = epoch; committed = s.board.committed }; execution = execution; validation = validation }) heads links
sound_with s firsts nexts heads links marks floors epoch execution validation h many as_many headed linked executes validates settled lists =
    let a = h.floored in let b = h.headed in let c = h.linked in let d = h.few in let e = h.within in let f = h.execution in let g = h.validation in
    record { floored = omega arith; headed = omega arith; linked = omega arith; few = omega arith; within = omega arith; execution = omega arith; validation = omega arith; settled = settled; lists = lists }

-- committed messages stay executed where one that isn't committed changes
pub settled_set : (s : Schedule) (firsts nexts : List (Option ℕ)) (i : ℕ) (m : MessageProgress) → IsSound s firsts nexts → s.board.committed ≤ i → (j : ℕ) → j < s.board.committed → (at (set s.board.marks i m) j).status ≡ status.Executed
settled_set s firsts nexts i m h past j l = ap (λ (n : MessageProgress). n.status) (get_or-set_other s.board.marks i j m fresh_mark (λ e. omega arith)) ∙ h.settled j l

-- and where those that wait are woken
pub settled_woken : (marks new : List MessageProgress) (i committed : ℕ) → ((j : ℕ) → j < committed → (at marks j).status ≡ status.Executed) → new ≡ map (woken i) marks → (j : ℕ) → j < committed → (at new j).status ≡ status.Executed
settled_woken marks new i committed settled is j l =
    ap (λ (ms : List MessageProgress). (at ms j).status) is ∙ ap (λ (m : MessageProgress). m.status) (at-woken marks i j) ∙ ap (woken_status i) (settled j l)

-- a floor past the committed count is raised: the highest one stays
pub lowered-IsHighest : (b : Board) (marks : List MessageProgress) (i highest : ℕ) → b.committed ≤ i → IsHighest b highest → IsHighest (record { marks = marks; floors = set b.floors (i + 1) (b.epoch + 1); epoch = b.epoch + 1; committed = b.committed }) highest
lowered-IsHighest b marks i highest past h =
    let same : (t : ℕ) → t ≤ b.committed → get_or (set b.floors (i + 1) (b.epoch + 1)) t 0 ≡ floor b t = λ t l. get_or-set_other b.floors (i + 1) t (b.epoch + 1) 0 (λ e. omega arith) in
    (λ t l. subst (λ (n : ℕ). n ≤ highest) (sym (same t l)) (h.0 t l), (h.1.0, h.1.1, same h.1.0 h.1.1 ∙ h.1.2))

-- one more message is committed: the next floor may be the highest
pub more-IsHighest : (b : Board) (highest next : ℕ) → IsHighest b highest → next ≡ floor b (b.committed + 1) → IsHighest (record { marks = b.marks; floors = b.floors; epoch = b.epoch; committed = b.committed + 1 }) (max highest next)
more-IsHighest b highest next h is = (
  λ t l. elim (cases_eq t (b.committed + 1)) [
    | inl same ↦ subst (λ (n : ℕ). floor b n ≤ max highest next) (sym same) (omega arith)
    | inr ne ↦ let old = h.0 t (omega arith) in omega arith
  ],
  elim (cases_lt highest next) [
    | inl above ↦ (b.committed + 1, omega arith, sym is ∙ omega arith)
    | inr below ↦ (h.1.0, let l = h.1.1 in omega arith, h.1.2 ∙ omega arith)
  ],
)

-- the opening schedule
pub open-IsSound : (n : ℕ) → n ≤ 65536 → IsSound (open_schedule n) (replicate {A = Option ℕ} n None) (replicate {A = Option ℕ} n None)
open-IsSound n few = record {
  floored = length-replicate (n + 1) 0 ∙ ap (λ (k : ℕ). k + 1) (sym (length-replicate n fresh_mark));
  headed = length-replicate {A = Option ℕ} n None ∙ sym (length-replicate n fresh_mark);
  linked = length-replicate {A = Option ℕ} n None ∙ sym (length-replicate n fresh_mark);
  few = let l = length-replicate n fresh_mark in omega arith;
  within = omega arith;
  execution = omega arith;
  validation = omega arith;
  settled = λ i l. absurd (omega arith);
  lists = λ on. record {
    list = Rattle.std.proofs.Common.[];
    from = none_there n on;
    apart = tt;
    waiting = λ w h. absurd h;
    listed = λ w h. absurd (ready_waits on (sym (fresh_there n w) ∙ h));
  };
}
  where
    none_there : (n i : ℕ) → get_or (replicate {A = Option ℕ} n None) i None ≡ None
    none_there n i = elim (cases_lt i n) [ inl l ↦ get_or-replicate n i None None l | inr past ↦ get_or_past (replicate n None) i None (let k = length-replicate {A = Option ℕ} n None in omega arith) ]

    fresh_there : (n i : ℕ) → (at (replicate n fresh_mark) i).status ≡ status.Ready
    fresh_there n i = elim (cases_lt i n) [ inl l ↦ ap (λ (m : MessageProgress). m.status) (get_or-replicate n i fresh_mark fresh_mark l) | inr past ↦ ap (λ (m : MessageProgress). m.status) (get_or_past (replicate n fresh_mark) i fresh_mark (let k = length-replicate n fresh_mark in omega arith)) ]

pub open-IsHighest : (n : ℕ) → IsHighest (open_schedule n).board 0
open-IsHighest n = (λ t l. let z = zero_there n t in omega arith, (0, omega arith, zero_there n 0))
  where
    zero_there : (n t : ℕ) → ◌≡◌ {A = ℕ} (get_or (replicate (n + 1) 0) t 0) 0
    zero_there n t = elim (cases_lt t (n + 1)) [ inl l ↦ get_or-replicate (n + 1) t 0 0 l | inr past ↦ get_or_past (replicate (n + 1) 0) t 0 (let k : length (replicate {A = ℕ} (n + 1) 0) ≡ n + 1 = length-replicate {A = ℕ} (n + 1) 0 in omega arith) ]

-- one more message is committed
pub committed-IsSound : (s : Schedule) (firsts nexts : List (Option ℕ)) → IsSound s firsts nexts → s.board.committed < length s.board.marks → (mark s.board s.board.committed).status ≡ status.Executed → IsSound (record { board = record { marks = s.board.marks; floors = s.board.floors; epoch = s.board.epoch; committed = s.board.committed + 1 }; execution = s.execution; validation = s.validation }) firsts nexts
committed-IsSound s firsts nexts h l executed =
    record {
      floored = h.floored;
      headed = h.headed;
      linked = h.linked;
      few = h.few;
      within = omega arith;
      execution = h.execution;
      validation = h.validation;
      settled = λ i k. elim (cases_eq i s.board.committed) [ inl same ↦ subst (λ (n : ℕ). (mark s.board n).status ≡ status.Executed) (sym same) executed | inr ne ↦ h.settled i (omega arith) ];
      lists = h.lists;
    }

-- the same messages wait, where one that doesn't changes
pub lowered_before : (marks : List MessageProgress) (i before after : ℕ) (m : MessageProgress) → i < length marks → ((at marks i).status ≡ status.Running) → (m.status ≡ status.Executed) → IsLoweredToWaiting (set marks i m) i before after → IsLoweredToWaiting marks i before after
lowered_before marks i before after m l running executed is =
    let same : (w : ℕ) → w ≢ i → at (set marks i m) w ≡ at marks w = λ w ne. get_or-set_other marks i w m fresh_mark ne in (
      is.0,
      λ w h. elim (cases_eq w i) [
        | inl own ↦ absurd (running_waits i (sym running ∙ ap (λ (n : ℕ). (at marks n).status) (sym own) ∙ h))
        | inr ne ↦ is.1 w (ap (λ (x : MessageProgress). x.status) (same w ne) ∙ h)
      ],
      elim is.2 [
        | inl e ↦ inl e
        | inr h ↦ elim (cases_eq after i) [
          | inl own ↦ absurd (executed_waits i (sym executed ∙ sym (ap (λ (x : MessageProgress). x.status) (get_or-set_same marks i m fresh_mark l)) ∙ ap (λ (n : ℕ). (at (set marks i m) n).status) (sym own) ∙ h))
          | inr ne ↦ inr (sym (ap (λ (x : MessageProgress). x.status) (same after ne)) ∙ h)
        ]
      ],
    )

-- a ready message is handed out, and the cursors stand somewhere within
pub claimed-IsSound : (s : Schedule) (firsts nexts : List (Option ℕ)) (i : ℕ) (m : MessageProgress) (execution validation : ℕ) → IsSound s firsts nexts → IsReady s.board i → execution ≤ length s.board.marks → validation ≤ length s.board.marks → IsSound (record { board = record { marks = set s.board.marks i (record m { status = status.Running }); floors = s.board.floors; epoch = s.board.epoch; committed = s.board.committed }; execution = execution; validation = validation }) firsts nexts
claimed-IsSound s firsts nexts i m execution validation h ready executes validates =
    let many = length-set s.board.marks i (record m { status = status.Running }) in
    let a = h.floored in let b = h.headed in let c = h.linked in let d = h.few in let e = h.within in
    record {
      floored = omega arith;
      headed = omega arith;
      linked = omega arith;
      few = omega arith;
      within = omega arith;
      execution = omega arith;
      validation = omega arith;
      settled = settled_set s firsts nexts i (record m { status = status.Running }) h (ready_past s firsts nexts i h ready.1);
      lists = lists_changed s.board.marks firsts nexts i (record m { status = status.Running }) h.lists ready.0 (λ on w. ready_waits on (sym ready.1 ∙ w)) running_waits;
    }

-- what is neither handed out nor to be validated is nothing
pub idle_chosen : (b : Board) (e v : ℕ) (answer : Task) (f w : ℕ) → Chooses b e v answer f w → ((x : Version) → answer ≡ task.Execute x → ⊥) → ((x : Version) → answer ≡ task.Validate x → ⊥) → Chooses b e v task.Idle f w
idle_chosen b e v (task.Execute x) f w chosen not_execute not_validate = absurd (not_execute x refl)
idle_chosen b e v (task.Validate x) f w chosen not_execute not_validate = absurd (not_validate x refl)
idle_chosen b e v task.Idle f w chosen not_execute not_validate = chosen
idle_chosen b e v task.Done f w chosen not_execute not_validate = absurd (Chooses-allowed b e v task.Done f w chosen)
