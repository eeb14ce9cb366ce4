-- An entry leads to one core, and so do the entries of a journal.
use Rattle.std.proofs.Common.{◌≡◌, ◌≢◌, ℕ, List, [], ◌∷◌, refl, sym, ◌∙◌, subst, Result, Ok, Err, Bool, true}
use Rattle.std.proofs.lemmas.Bool.{false≢true}
use Rattle.stm_core_laws.specs.Words.{IsReached, Play, PlayStep}
use Rattle.stm_journal_text.specs.Words.{Answers, Plays, stands}
use Rattle.stm_core_laws.specs.declared.core_fault.CoreFault.{CoreFault}
use Rattle.stm_journal_text.specs.declared.core_answer.CoreAnswer.{CoreAnswer}
use Rattle.stm_journal_text.specs.declared.entry.Entry.{Entry}
use Rattle.stm_journal_text.specs.declared.event.Event.{Event}
use Rattle.stm_journal_text.specs.declared.event.Event.TheVariants.{Claim, Read, Block, Finish, BeginValidation, ValidateOne, EndValidation, Commit}
use Rattle.stm_memory.specs.declared.version.Version.{Version}
use Rattle.issuer_rows.specs.declared.row_key.RowKey.{RowKey}
use Rattle.stm_scheduler.specs.declared.task.Task.{Task}
use Rattle.stm_core_laws.proofs.Reached.{IsReached-Step}
use Rattle.stm_core_laws.specs.Run as call
use Rattle.stm_core_laws.specs.declared.core_fault.CoreFault.TheVariants.{NotRunning, OtherReads, Outdated, OutOfMemory, Exhausted}
use Rattle.stm_core_laws.specs.declared.got.Got as core_got
use Rattle.stm_journal_text.specs.declared.core_answer.CoreAnswer.TheVariants.{Claimed, Got, Blocked, Finished, Validating, Ended, Committed, Refused}
use Rattle.stm_journal_text.proofs.Decided.{one_finish, finish_or_exhausted}
use Rattle.stm_journal_text.proofs.OneAnswer.{one_task, one_read, one_block, one_begin, one_validated, one_end, one_commit}
use Rattle.stm_journal_text.proofs.OneCall.{one_call, same_still}

after_claim : (p : Play) (a b : Task) (t w : Play) → PlayStep p (call.Claim a) t → PlayStep p (call.Claim b) w → t ≡ w
after_claim p a b t w x y =
    one_call p (call.Claim a) t w x (subst (λ (z : Task). PlayStep p (call.Claim z) w) (sym (one_task p a b t w x.1 y.1)) y)

after_read : (p : Play) (v : Version) (row : RowKey) (a b : Result core_got.Got CoreFault) (t w : Play) → a ≢ Err OutOfMemory → b ≢ Err OutOfMemory → PlayStep p (call.Read v row a) t → PlayStep p (call.Read v row b) w → t ≡ w
after_read p v row a b t w f g x y =
    one_call p (call.Read v row a) t w x (subst (λ (z : Result core_got.Got CoreFault). PlayStep p (call.Read v row z) w) (sym (one_read p.state v row a b t.state w.state f g x.0 y.0)) y)

after_block : (p : Play) (v : Version) (on : ℕ) (a b : Result (Unit {0}) CoreFault) (t w : Play) → PlayStep p (call.Block v on a) t → PlayStep p (call.Block v on b) w → t ≡ w
after_block p v on a b t w x y =
    one_call p (call.Block v on a) t w x (subst (λ (z : Result (Unit {0}) CoreFault). PlayStep p (call.Block v on z) w) (sym (one_block p.state v on a b t.state w.state x.0 y.0)) y)

after_begin : (p : Play) (seat : ℕ) (v : Version) (a b : Result Bool CoreFault) (t w : Play) → PlayStep p (call.Begin seat v a) t → PlayStep p (call.Begin seat v b) w → t ≡ w
after_begin p seat v a b t w x y =
    one_call p (call.Begin seat v a) t w x (subst (λ (z : Result Bool CoreFault). PlayStep p (call.Begin seat v z) w) (sym (one_begin p.state seat v a b t.state w.state x.0.1 y.0.1)) y)

after_validation : (p : Play) (seat : ℕ) (a b : Result Bool CoreFault) (t w : Play) → PlayStep p (call.ValidateOne seat a) t → PlayStep p (call.ValidateOne seat b) w → t ≡ w
after_validation p seat a b t w x y =
    one_call p (call.ValidateOne seat a) t w x (subst (λ (z : Result Bool CoreFault). PlayStep p (call.ValidateOne seat z) w) (sym (one_validated p.state seat a b t.state w.state x.0.1 y.0.1)) y)

after_end : (p : Play) (seat : ℕ) (a b : Result Bool CoreFault) (t w : Play) → PlayStep p (call.End seat a) t → PlayStep p (call.End seat b) w → t ≡ w
after_end p seat a b t w x y =
    one_call p (call.End seat a) t w x (subst (λ (z : Result Bool CoreFault). PlayStep p (call.End seat z) w) (sym (one_end p.state seat a b t.state w.state x.0.1 y.0.1)) y)

after_commit : (p : Play) (a b : Bool) (t w : Play) → PlayStep p (call.Commit a) t → PlayStep p (call.Commit b) w → t ≡ w
after_commit p a b t w x y =
    one_call p (call.Commit a) t w x (subst (λ (z : Bool). PlayStep p (call.Commit z) w) (sym (one_commit p.state a b t.state w.state x.0 y.0)) y)

-- an answer that stands is no out of memory
pub room : (fault : CoreFault) (e : Result core_got.Got CoreFault) → e ≡ Err fault → stands (Refused fault) ≡ true → e ≢ Err OutOfMemory
room OutOfMemory e is stand out = false≢true stand
room OtherReads e is stand out = false≢true stand
room NotRunning e is stand out = cc
room Outdated e is stand out = cc
room Exhausted e is stand out = cc

pub had_room : (got : core_got.Got) (e : Result core_got.Got CoreFault) → e ≡ Ok got → e ≢ Err OutOfMemory
had_room got e is out = cc

-- a finish with its answer
after_finish : (p : Play) (seat : ℕ) (v : Version) (answer other : CoreAnswer) (t w : Play) → stands answer ≡ true → stands other ≡ true → Answers p seat (Finish v) answer t → Answers p seat (Finish v) other w → t ≡ w
after_finish p seat v (Refused OutOfMemory) other t w f g a b = absurd (false≢true f)
after_finish p seat v (Refused OtherReads) other t w f g a b = absurd (false≢true f)
after_finish p seat v (Refused Outdated) other t w f g a b = absurd a.1.0.1
after_finish p seat v answer (Refused OutOfMemory) t w f g a b = absurd (false≢true g)
after_finish p seat v answer (Refused OtherReads) t w f g a b = absurd (false≢true g)
after_finish p seat v answer (Refused Outdated) t w f g a b = absurd b.1.0.1
after_finish p seat v (Finished handed) (Finished also) t w f g a b = one_finish p v a.0 b.0 handed also t w a.1 b.1
after_finish p seat v (Finished handed) (Refused Exhausted) t w f g a b = absurd (finish_or_exhausted p v a.0 b.0 handed t w a.1 b.1)
after_finish p seat v (Refused Exhausted) (Finished also) t w f g a b = absurd (finish_or_exhausted p v b.0 a.0 also w t b.1 a.1)
after_finish p seat v (Finished handed) (Refused NotRunning) t w f g a b = absurd (b.0 a.1.0.1.0)
after_finish p seat v (Refused NotRunning) (Finished also) t w f g a b = absurd (a.0 b.1.0.1.0)
after_finish p seat v (Refused Exhausted) (Refused NotRunning) t w f g a b = absurd (b.0 a.1.0.1.0)
after_finish p seat v (Refused NotRunning) (Refused Exhausted) t w f g a b = absurd (a.0 b.1.0.1.0)
after_finish p seat v (Refused NotRunning) (Refused NotRunning) t w f g a b = a.1 ∙ sym b.1
after_finish p seat v (Refused Exhausted) (Refused Exhausted) t w f g a b = same_still p t a.1.0.1.4 a.1.1 ∙ sym (same_still p w b.1.0.1.4 b.1.1)
after_finish p seat v (Finished handed) other t w f g a b = absurd b
after_finish p seat v (Refused NotRunning) other t w f g a b = absurd b
after_finish p seat v (Refused Exhausted) other t w f g a b = absurd b
after_finish p seat v answer other t w f g a b = absurd a

-- an event, however it is answered, leads to one core
pub one_answer : (p : Play) (seat : ℕ) (event : Event) (answer other : CoreAnswer) (t w : Play) → stands answer ≡ true → stands other ≡ true → Answers p seat event answer t → Answers p seat event other w → t ≡ w
one_answer p seat Claim (Claimed a) (Claimed b) t w f g x y = after_claim p a b t w x y
one_answer p seat (Read v row) (Got a) (Got b) t w f g x y = after_read p v row (Ok a) (Ok b) t w (had_room a _ refl) (had_room b _ refl) x y
one_answer p seat (Read v row) (Got a) (Refused b) t w f g x y = after_read p v row (Ok a) (Err b) t w (had_room a _ refl) (room b _ refl g) x y
one_answer p seat (Read v row) (Refused a) (Got b) t w f g x y = after_read p v row (Err a) (Ok b) t w (room a _ refl f) (had_room b _ refl) x y
one_answer p seat (Read v row) (Refused a) (Refused b) t w f g x y = after_read p v row (Err a) (Err b) t w (room a _ refl f) (room b _ refl g) x y
one_answer p seat (Block v on) Blocked Blocked t w f g x y = after_block p v on (Ok tt) (Ok tt) t w x y
one_answer p seat (Block v on) Blocked (Refused b) t w f g x y = after_block p v on (Ok tt) (Err b) t w x y
one_answer p seat (Block v on) (Refused a) Blocked t w f g x y = after_block p v on (Err a) (Ok tt) t w x y
one_answer p seat (Block v on) (Refused a) (Refused b) t w f g x y = after_block p v on (Err a) (Err b) t w x y
one_answer p seat (Finish v) answer other t w f g x y = after_finish p seat v answer other t w f g x y
one_answer p seat (BeginValidation v) (Validating a) (Validating b) t w f g x y = after_begin p seat v (Ok a) (Ok b) t w x y
one_answer p seat (BeginValidation v) (Validating a) (Refused b) t w f g x y = after_begin p seat v (Ok a) (Err b) t w x y
one_answer p seat (BeginValidation v) (Refused a) (Validating b) t w f g x y = after_begin p seat v (Err a) (Ok b) t w x y
one_answer p seat (BeginValidation v) (Refused a) (Refused b) t w f g x y = after_begin p seat v (Err a) (Err b) t w x y
one_answer p seat ValidateOne (Validating a) (Validating b) t w f g x y = after_validation p seat (Ok a) (Ok b) t w x y
one_answer p seat ValidateOne (Validating a) (Refused b) t w f g x y = after_validation p seat (Ok a) (Err b) t w x y
one_answer p seat ValidateOne (Refused a) (Validating b) t w f g x y = after_validation p seat (Err a) (Ok b) t w x y
one_answer p seat ValidateOne (Refused a) (Refused b) t w f g x y = after_validation p seat (Err a) (Err b) t w x y
one_answer p seat EndValidation (Ended a) (Ended b) t w f g x y = after_end p seat (Ok a) (Ok b) t w x y
one_answer p seat EndValidation (Ended a) (Refused b) t w f g x y = after_end p seat (Ok a) (Err b) t w x y
one_answer p seat EndValidation (Refused a) (Ended b) t w f g x y = after_end p seat (Err a) (Ok b) t w x y
one_answer p seat EndValidation (Refused a) (Refused b) t w f g x y = after_end p seat (Err a) (Err b) t w x y
one_answer p seat Commit (Committed a) (Committed b) t w f g x y = after_commit p a b t w x y
-- one of the two is no answer to this event
one_answer p seat event answer other t w f g x y = absurd assumption

-- a journal plays to one core
pub one_play : (start : Play) (entries : List Entry) (t w : Play) → Plays start entries t → Plays start entries w → t ≡ w
one_play start [] t w x y = x ∙ sym y
one_play start (e ∷ entries) t w x y =
    let same : x.0 ≡ y.0 = one_answer start e.seat e.event x.1.0 y.1.0 x.0 y.0 x.1.1 y.1.1 x.1.2 y.1.2 in
    one_play x.0 entries t w x.2 (subst (λ (p : Play). Plays p entries w) (sym same) y.2)

-- an answer is a call of the core
reached_on : (p : Play) (seat : ℕ) (event : Event) (answer : CoreAnswer) (t : Play) → IsReached p.state → Answers p seat event answer t → IsReached t.state
reached_on p seat Claim (Claimed task) t reached x = IsReached-Step p.state (call.Claim task) t.state reached x.0
reached_on p seat (Read v row) (Got got) t reached x = IsReached-Step p.state (call.Read v row (Ok got)) t.state reached x.0
reached_on p seat (Read v row) (Refused fault) t reached x = IsReached-Step p.state (call.Read v row (Err fault)) t.state reached x.0
reached_on p seat (Block v on) Blocked t reached x = IsReached-Step p.state (call.Block v on (Ok tt)) t.state reached x.0
reached_on p seat (Block v on) (Refused fault) t reached x = IsReached-Step p.state (call.Block v on (Err fault)) t.state reached x.0
reached_on p seat (Finish v) (Finished handed) t reached x = IsReached-Step p.state (call.Finish v x.0 (Ok handed)) t.state reached x.1.0
reached_on p seat (Finish v) (Refused NotRunning) t reached x = subst (λ (q : Play). IsReached q.state) (sym x.1) reached
reached_on p seat (Finish v) (Refused OtherReads) t reached x = IsReached-Step p.state (call.Finish v x.0 (Err OtherReads)) t.state reached x.1.0
reached_on p seat (Finish v) (Refused OutOfMemory) t reached x = IsReached-Step p.state (call.Finish v x.0 (Err OutOfMemory)) t.state reached x.1.0
reached_on p seat (Finish v) (Refused Exhausted) t reached x = IsReached-Step p.state (call.Finish v x.0 (Err Exhausted)) t.state reached x.1.0
reached_on p seat (Finish v) (Refused Outdated) t reached x = absurd x.1.0.1
reached_on p seat (BeginValidation v) (Validating ended) t reached x = IsReached-Step p.state (call.Begin seat v (Ok ended)) t.state reached x.0
reached_on p seat (BeginValidation v) (Refused fault) t reached x = IsReached-Step p.state (call.Begin seat v (Err fault)) t.state reached x.0
reached_on p seat ValidateOne (Validating ended) t reached x = IsReached-Step p.state (call.ValidateOne seat (Ok ended)) t.state reached x.0
reached_on p seat ValidateOne (Refused fault) t reached x = IsReached-Step p.state (call.ValidateOne seat (Err fault)) t.state reached x.0
reached_on p seat EndValidation (Ended passed) t reached x = IsReached-Step p.state (call.End seat (Ok passed)) t.state reached x.0
reached_on p seat EndValidation (Refused fault) t reached x = IsReached-Step p.state (call.End seat (Err fault)) t.state reached x.0
reached_on p seat Commit (Committed done) t reached x = IsReached-Step p.state (call.Commit done) t.state reached x.0
reached_on p seat event answer t reached x = absurd x

-- a journal plays to a state of a run
pub reached_play : (start : Play) (entries : List Entry) (t : Play) → IsReached start.state → Plays start entries t → IsReached t.state
reached_play start [] t reached x = subst (λ (q : Play). IsReached q.state) (sym x) reached
reached_play start (e ∷ entries) t reached x =
    reached_play x.0 entries t (reached_on start e.seat e.event x.1.0 x.0 reached x.1.2) x.2
