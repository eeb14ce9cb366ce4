-- What a journal plays to on another book, where each row that it reads stands alike: the same, over that book.
use Rattle.std.proofs.Common.{◌≡◌, ◌≢◌, ◌⊎◌, inl, inr, ℕ, Bool, true, false, List, [], ◌∷◌, ◌++◌, Option, Some, None, Result, Ok, Err, IfOk, refl, sym, ap, subst, ◌∙◌}
use Rattle.std.specs.FinMap as finite
use Rattle.std.specs.List.{AllByRecursion}
use Rattle.issuer_words.specs.Words.{Executed, Frame, ReplyBody, RowKey, RowVal, Rows}
use Rattle.stm_memory.specs.Words.{Entries, IsNewLocation}
use Rattle.stm_memory.specs.declared.seen.Seen.{Seen}
use Rattle.stm_memory.specs.declared.seen.Seen.TheVariants as seen
use Rattle.stm_memory.specs.declared.version.Version.{Version}
use Rattle.stm_scheduler.specs.Board.{finished, lowered, IsWaitedFor}
use Rattle.stm_scheduler.specs.declared.status.Status.TheVariants as status
use Rattle.stm_scheduler.specs.declared.task.Task.{Task}
use Rattle.stm_scheduler.specs.declared.task.Task.TheVariants.{Execute, Validate, Idle, Done}
use Rattle.stm_core_laws.specs.Log.{logged_of}
use Rattle.stm_core_laws.specs.Play.{Play, opening_play}
use Rattle.stm_core_laws.specs.State.{State}
use Rattle.stm_core_laws.specs.Step.{BeginStep, BlockStep, ClaimStep, CommitStep, EndStep, FinishStep, IsSeen, ReadStep, ValidationStep, blocked, logged_by, with_execution, with_read}
use Rattle.stm_core_laws.specs.declared.core_fault.CoreFault.{CoreFault}
use Rattle.stm_core_laws.specs.declared.core_fault.CoreFault.TheVariants.{NotRunning, OtherReads, Outdated, OutOfMemory, Exhausted}
use Rattle.stm_core_laws.specs.declared.got.Got.{Got}
use Rattle.stm_core_laws.specs.declared.got.Got.TheVariants as got
use Rattle.stm_core_laws.specs.declared.limits.Limits.{Limits}
use Rattle.stm_core_laws.specs.declared.logged.Logged.{Logged}
use Rattle.stm_journal.specs.Finished.{EndsExhausted, IsFinished}
use Rattle.stm_journal_text.specs.Answers.{Answers}
use Rattle.stm_journal_text.specs.Plays.{Plays, IsPlayed}
use Rattle.stm_journal_text.specs.declared.core_answer.CoreAnswer.{CoreAnswer}
use Rattle.stm_journal_text.specs.declared.core_answer.CoreAnswer.TheVariants.{Claimed, Got as IsGot, Blocked, Finished, Validating, Ended, Committed, Refused}
use Rattle.stm_journal_text.specs.declared.entry.Entry.{Entry}
use Rattle.stm_journal_text.specs.declared.event.Event.{Event}
use Rattle.stm_journal_text.specs.declared.event.Event.TheVariants.{Claim, Read, Block, Finish, BeginValidation, ValidateOne, EndValidation, Commit}
use Rattle.stm_journal_text.proofs.Playing.{same_answers}
use Rattle.engine_locked.specs.Journals.{IsJournalOf}
use Rattle.app_runs.specs.ReadAlike.{IsReadAlike}

-- the same core over this book
abbrev over : Rows → State → State
over book s = record s { opening = book }

abbrev over_play : Rows → Play → Play
over_play book p = record p { state = record p.state { opening = book } }

same_logged : (a b : Rows) (row : RowKey) (s : Seen) → finite.get a row ≡ finite.get b row → logged_of a row s ≡ logged_of b row s
same_logged a b row seen.Base same = ap (λ (value : Option RowVal). Some (record { origin = None; value = value })) same
same_logged a b row (seen.Value version value) same = refl
same_logged a b row (seen.Estimate at) same = refl

claim_over : (b : Rows) (old : State) (task : Task) (new : State) → ClaimStep old task new → ClaimStep (over b old) task (over b new)
claim_over b old Done new h = (h.0, ap (over b) h.1)
claim_over b old (Execute v) new h = (h.0, h.1, h.2, ap (over b) h.3)
claim_over b old (Validate v) new h = (h.0, h.1, ap (over b) h.2)
claim_over b old Idle new h = (h.0, ap (over b) h.1)

row_over : (b : Rows) (old : State) (v : Version) (row : RowKey) (value : Option RowVal) (new : State) → finite.get old.opening row ≡ finite.get b row
    → ((logged_by old v row ≡ Some value) × (new ≡ old))
    ⊎ ((s : Seen) × (logged : Logged) × IsSeen old v row s × (logged_of old.opening row s ≡ Some logged) × (value ≡ logged.value) × (new ≡ with_read old v row logged))
    → ((logged_by (over b old) v row ≡ Some value) × (over b new ≡ over b old))
    ⊎ ((s : Seen) × (logged : Logged) × IsSeen (over b old) v row s × (logged_of b row s ≡ Some logged) × (value ≡ logged.value) × (over b new ≡ with_read (over b old) v row logged))
row_over b old v row value new same (inl h) = inl (h.0, ap (over b) h.1)
row_over b old v row value new same (inr h) = inr (h.0, h.1, h.2, sym (same_logged old.opening b row h.0 same) ∙ h.3, h.4, ap (over b) h.5)

read_over : (b : Rows) (old : State) (v : Version) (row : RowKey) (answer : Result Got CoreFault) (new : State) → finite.get old.opening row ≡ finite.get b row
    → ReadStep old v row answer new → ReadStep (over b old) v row answer (over b new)
read_over b old v row (Ok (got.Row value)) new same h = (h.0, row_over b old v row value new same h.1)
read_over b old v row (Ok (got.Estimate at)) new same h = (h.0, h.1, ap (over b) h.2)
read_over b old v row (Err NotRunning) new same h = (h.0, ap (over b) h.1)
read_over b old v row (Err OutOfMemory) new same h = (h.0, (h.1.0, h.1.1, h.1.2, sym (same_logged old.opening b row h.1.0 same) ∙ h.1.3), ap (over b) h.2)
read_over b old v row (Err OtherReads) new same h = absurd h
read_over b old v row (Err Outdated) new same h = absurd h
read_over b old v row (Err Exhausted) new same h = absurd h

waiting_over : (b : Rows) (old : State) (v : Version) (on : ℕ) (new : State)
    → (IsWaitedFor old.board v.index on × (new ≡ blocked old v.index (status.Waiting on))) ⊎ (¬ IsWaitedFor old.board v.index on × (new ≡ blocked old v.index status.Ready))
    → (IsWaitedFor old.board v.index on × (over b new ≡ blocked (over b old) v.index (status.Waiting on))) ⊎ (¬ IsWaitedFor old.board v.index on × (over b new ≡ blocked (over b old) v.index status.Ready))
waiting_over b old v on new (inl h) = inl (h.0, ap (over b) h.1)
waiting_over b old v on new (inr h) = inr (h.0, ap (over b) h.1)

block_over : (b : Rows) (old : State) (v : Version) (on : ℕ) (answer : Result (Unit {0}) CoreFault) (new : State) → BlockStep old v on answer new → BlockStep (over b old) v on answer (over b new)
block_over b old v on (Ok x) new h = (h.0, h.1, waiting_over b old v on new h.2)
block_over b old v on (Err NotRunning) new h = (h.0, ap (over b) h.1)
block_over b old v on (Err Exhausted) new h = (h.0, h.1, ap (over b) h.2)
block_over b old v on (Err OtherReads) new h = absurd h
block_over b old v on (Err Outdated) new h = absurd h
block_over b old v on (Err OutOfMemory) new h = absurd h

entries_over : (b : Rows) (old : State) (v : Version) (x : Executed) (handed : Bool) (entries : Entries) (new : State)
    → (IsNewLocation old.entries v.index x.writes × (old.board.epoch ≢ old.limits.epoch) × (handed ≡ false) × (new ≡ with_execution old v x entries (lowered (finished old.board v.index) v.index)))
    ⊎ (¬ IsNewLocation old.entries v.index x.writes × (new ≡ with_execution old v x entries (finished old.board v.index)))
    → (IsNewLocation old.entries v.index x.writes × (old.board.epoch ≢ old.limits.epoch) × (handed ≡ false) × (over b new ≡ with_execution (over b old) v x entries (lowered (finished old.board v.index) v.index)))
    ⊎ (¬ IsNewLocation old.entries v.index x.writes × (over b new ≡ with_execution (over b old) v x entries (finished old.board v.index)))
entries_over b old v x handed entries new (inl h) = inl (h.0, h.1, h.2, ap (over b) h.3)
entries_over b old v x handed entries new (inr h) = inr (h.0, ap (over b) h.1)

finish_over : (b : Rows) (old : State) (v : Version) (x : Executed) (answer : Result Bool CoreFault) (new : State) → FinishStep old v x answer new → FinishStep (over b old) v x answer (over b new)
finish_over b old v x (Ok handed) new h = (h.0, h.1, (h.2.0, h.2.1, entries_over b old v x handed h.2.0 new h.2.2))
finish_over b old v x (Err NotRunning) new h = (h.0, ap (over b) h.1)
finish_over b old v x (Err OtherReads) new h = (h.0, h.1, ap (over b) h.2)
finish_over b old v x (Err Exhausted) new h = (h.0, h.1, h.2, h.3, ap (over b) h.4)
finish_over b old v x (Err OutOfMemory) new h = (h.0, h.1, h.2, ap (over b) h.3)
finish_over b old v x (Err Outdated) new h = absurd h

begin_over : (b : Rows) (old : State) (seat : ℕ) (v : Version) (answer : Result Bool CoreFault) (new : State) → BeginStep old seat v answer new → BeginStep (over b old) seat v answer (over b new)
begin_over b old seat v (Ok ended) new h = (h.0, h.1, ap (over b) h.2)
begin_over b old seat v (Err Outdated) new h = (h.0, ap (over b) h.1)
begin_over b old seat v (Err NotRunning) new h = absurd h
begin_over b old seat v (Err OtherReads) new h = absurd h
begin_over b old seat v (Err OutOfMemory) new h = absurd h
begin_over b old seat v (Err Exhausted) new h = absurd h

validation_over : (b : Rows) (old : State) (seat : ℕ) (answer : Result Bool CoreFault) (new : State) → ValidationStep old seat answer new → ValidationStep (over b old) seat answer (over b new)
validation_over b old seat (Ok ended) new h = (h.0, h.1, h.2, h.3, h.4, h.5, ap (over b) h.6)
validation_over b old seat (Err NotRunning) new h = (h.0, ap (over b) h.1)
validation_over b old seat (Err Outdated) new h = (h.0, ap (over b) h.1)
validation_over b old seat (Err OtherReads) new h = absurd h
validation_over b old seat (Err OutOfMemory) new h = absurd h
validation_over b old seat (Err Exhausted) new h = absurd h

end_over : (b : Rows) (old : State) (seat : ℕ) (answer : Result Bool CoreFault) (new : State) → EndStep old seat answer new → EndStep (over b old) seat answer (over b new)
end_over b old seat (Ok true) new h = (h.0, h.1, h.2, h.3, ap (over b) h.4)
end_over b old seat (Ok false) new h = (h.0, h.1, h.2, h.3, h.4, (h.5.0, h.5.1, ap (over b) h.5.2))
end_over b old seat (Err NotRunning) new h = (h.0, ap (over b) h.1)
end_over b old seat (Err Outdated) new h = (h.0, ap (over b) h.1)
end_over b old seat (Err Exhausted) new h = (h.0, ap (over b) h.1)
end_over b old seat (Err OtherReads) new h = absurd h
end_over b old seat (Err OutOfMemory) new h = absurd h

commit_over : (b : Rows) (old : State) (answer : Bool) (new : State) → CommitStep old answer new → CommitStep (over b old) answer (over b new)
commit_over b old true new h = (h.0, h.1, ap (over b) h.2)
commit_over b old false new h = (h.0, ap (over b) h.1)

-- an event is answered alike
answers_over : (b : Rows) (old : Play) (seat : ℕ) (event : Event) (answer : CoreAnswer) (new : Play) → IsReadAlike old.state.opening b event
    → Answers old seat event answer new → Answers (over_play b old) seat event answer (over_play b new)
answers_over b old seat Claim (Claimed task) new same a = (claim_over b old.state task new.state a.0, a.1)
answers_over b old seat (Read v row) (IsGot x) new same a = (read_over b old.state v row (Ok x) new.state same a.0, a.1)
answers_over b old seat (Read v row) (Refused fault) new same a = (read_over b old.state v row (Err fault) new.state same a.0, a.1)
answers_over b old seat (Block v on) Blocked new same a = (block_over b old.state v on (Ok tt) new.state a.0, a.1)
answers_over b old seat (Block v on) (Refused fault) new same a = (block_over b old.state v on (Err fault) new.state a.0, a.1)
answers_over b old seat (Finish v) (Finished handed) new same a = (a.0, ((a.1.0.0, finish_over b old.state v a.0 (Ok handed) new.state a.1.0.1), a.1.1))
answers_over b old seat (Finish v) (Refused NotRunning) new same a = (a.0, ap (over_play b) a.1)
answers_over b old seat (Finish v) (Refused OtherReads) new same a = (a.0, ((a.1.0.0, finish_over b old.state v a.0 (Err OtherReads) new.state a.1.0.1), a.1.1))
answers_over b old seat (Finish v) (Refused OutOfMemory) new same a = (a.0, ((a.1.0.0, finish_over b old.state v a.0 (Err OutOfMemory) new.state a.1.0.1), a.1.1))
answers_over b old seat (Finish v) (Refused Exhausted) new same a = (a.0, ((a.1.0.0, finish_over b old.state v a.0 (Err Exhausted) new.state a.1.0.1), a.1.1))
answers_over b old seat (Finish v) (Refused Outdated) new same a = absurd a.1.0.1
answers_over b old seat (BeginValidation v) (Validating ended) new same a = ((a.0.0, begin_over b old.state seat v (Ok ended) new.state a.0.1), a.1)
answers_over b old seat (BeginValidation v) (Refused fault) new same a = ((a.0.0, begin_over b old.state seat v (Err fault) new.state a.0.1), a.1)
answers_over b old seat ValidateOne (Validating ended) new same a = ((a.0.0, validation_over b old.state seat (Ok ended) new.state a.0.1), a.1)
answers_over b old seat ValidateOne (Refused fault) new same a = ((a.0.0, validation_over b old.state seat (Err fault) new.state a.0.1), a.1)
answers_over b old seat EndValidation (Ended true) new same a = ((a.0.0, end_over b old.state seat (Ok true) new.state a.0.1), a.1)
answers_over b old seat EndValidation (Ended false) new same a = ((a.0.0, end_over b old.state seat (Ok false) new.state a.0.1), a.1)
answers_over b old seat EndValidation (Refused fault) new same a = ((a.0.0, end_over b old.state seat (Err fault) new.state a.0.1), a.1)
answers_over b old seat Commit (Committed done) new same a = (commit_over b old.state done new.state a.0, a.1)
answers_over b old seat event answer new same a = absurd a

-- each of these entries reads alike
abbrev AreReadAlike : Rows → Rows → List Entry → Type 0
AreReadAlike a b entries = AllByRecursion (λ entry. IsReadAlike a b entry.event) entries

plays_over : (a b : Rows) (old : Play) (entries : List Entry) (new : Play) → old.state.opening ≡ a → AreReadAlike a b entries → Plays old entries new → Plays (over_play b old) entries (over_play b new)
plays_over a b old [] new is alike plays = ap (over_play b) plays
plays_over a b old (entry ∷ entries) new is alike plays =
    let mid = plays.0 in
    let step = plays.1 in
    let stays = same_answers old entry.seat entry.event step.0 mid step.2 in (
      over_play b mid,
      (step.0, step.1, answers_over b old entry.seat entry.event step.0 mid (subst (λ (rows : Rows). IsReadAlike rows b entry.event) (sym is) alike.0) step.2),
      plays_over a b mid entries new (stays.0 ∙ is) alike.1 plays.2,
    )

opening_stays : (old : Play) (entries : List Entry) (new : Play) → Plays old entries new → new.state.opening ≡ old.state.opening
opening_stays old [] new plays = ap (λ (p : Play). p.state.opening) plays
opening_stays old (entry ∷ entries) new plays =
    opening_stays plays.0 entries new plays.2 ∙ (same_answers old entry.seat entry.event plays.1.0 plays.0 plays.1.2).0

first_alike : (a b : Rows) (some more : List Entry) → AreReadAlike a b (some ++ more) → AreReadAlike a b some × AreReadAlike a b more
first_alike a b [] more all = (tt, all)
first_alike a b (entry ∷ some) more all = let rest = first_alike a b some more all.1 in ((all.0, rest.0), rest.1)

exhausted_over : (a b : Rows) (core : Play) (entries : List Entry) → core.state.opening ≡ a → AreReadAlike a b entries → EndsExhausted core entries → EndsExhausted (over_play b core) entries
unfolding IsPlayed
exhausted_over a b core entries is alike e =
    let parts = first_alike a b e.before (e.last ∷ []) (subst (λ (all : List Entry). AreReadAlike a b all) e.are alike) in
    let stays = same_answers e.mid e.last.seat e.last.event (Refused Exhausted) core e.exhausted in
    let was : e.mid.state.opening ≡ a = sym stays.0 ∙ is in
    record {
      before = e.before;
      last = e.last;
      mid = over_play b e.mid;
      are = e.are;
      played = plays_over a b (opening_play e.mid.state.opening e.mid.state.frames e.mid.state.limits) e.before e.mid was parts.0 e.played;
      exhausted = answers_over b e.mid e.last.seat e.last.event (Refused Exhausted) core (subst (λ (rows : Rows). IsReadAlike rows b e.last.event) (sym was) parts.1.0) e.exhausted;
    }

finished_over : (a b : Rows) (core : Play) (entries : List Entry) → core.state.opening ≡ a → AreReadAlike a b entries → IsFinished core entries → IsFinished (over_play b core) entries
unfolding IsFinished
finished_over a b core entries is alike (inl all) = inl all
finished_over a b core entries is alike (inr e) = inr (exhausted_over a b core entries is alike e)

-- a journal on one book is one on the other
pub journal_over : (a b : Rows) (frames : List Frame) (limits : Limits) (entries : List Entry) (committed : ℕ) (replies : List ReplyBody) → AreReadAlike a b entries
    → IsJournalOf (opening_play a frames limits) entries committed replies → IsJournalOf (opening_play b frames limits) entries committed replies
journal_over a b frames limits entries committed replies alike j = record {
  core = over_play b j.core;
  plays = plays_over a b (opening_play a frames limits) entries j.core refl alike j.plays;
  count = j.count;
  rest = j.rest;
  begins = j.begins;
  finished = finished_over a b j.core entries (opening_stays (opening_play a frames limits) entries j.core j.plays) alike j.finished;
}

-- what follows from both holds of a result, too
pub if_both : {X E : Type 0} {P Q R : X → Type 0} (result : Result X E) → ((x : X) → P x → Q x → R x) → IfOk result P → IfOk result Q → IfOk result R
if_both (Ok x) both p q = both x p q
if_both (Err e) both p q = tt
