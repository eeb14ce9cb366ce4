-- A turn of a seat, by what it holds.
use Rattle.std.proofs.Common.{◌≡◌, ◌≢◌, ℕ, ◌<◌, List, [], ◌∷◌, ◌++◌, length, refl, sym, ap, subst, true, false, Err, inl, inr}
use Rattle.std.specs.List.{AllByRecursion}
use Rattle.issuer_words.specs.Words.{Agrees, Executed, Frame, RowKey, keys_read}
use Rattle.stm_core_laws.specs.Words.{FinishStep, IsAt, IsReached, Play, State, slot}
use Rattle.stm_journal_text.specs.Words.{Answers, EntryStep, FinishAnswers, FinishAnswersTo}
use Rattle.stm_journal_text.specs.Words.{IsLogged, IsNoFinish, entered, log_rows, stands}
use Rattle.stm_journal_text.specs.declared.core_answer.CoreAnswer.{CoreAnswer}
use Rattle.stm_journal_text.specs.declared.entry.Entry.{Entry}
use Rattle.stm_journal_text.specs.declared.event.Event.{Event}
use Rattle.stm_memory.specs.declared.version.Version.{Version}
use Rattle.stm_scheduler.specs.declared.task.Task.TheVariants as task
use Rattle.stm_core_laws.proofs.Validations.{one_at}
use Rattle.stm_core_laws.proofs.Reached.{Holds-reached}
use Rattle.stm_core_laws.specs.declared.core_fault.CoreFault.TheVariants.{NotRunning, OtherReads, OutOfMemory}
use Rattle.stm_core_laws.specs.declared.got.Got.TheVariants as got
use Rattle.stm_journal_text.specs.declared.event.Event.TheVariants.{Claim, Read, Finish}
use Rattle.stm_journal_text.proofs.Decided.{undecided}
use Rattle.stm_journal_text.proofs.OneCall.{same_still}
use Rattle.stm_journal_text.proofs.OneEntry.{reached_play}
use Rattle.stm_journal_text.proofs.Playing.{EntryStep-frames}
use Rattle.stm_journal_text.specs.declared.core_answer.CoreAnswer.TheVariants.{Claimed, Got, Finished, Validating, Ended, Committed, Refused}
use Rattle.stm_journal.proofs.Replayed.{asked_stands}
use Rattle.stm_journal.specs.Journaled.{Journaled, IsJournalStep}
use Rattle.stm_journal.specs.Turns.{Makes, then_holds, Acts, IsTurn, HasTurned, IsOfMessage, IsFirstUnlogged, needs_on}
use Rattle.stm_journal.specs.declared.holding.Holding.{Holding}
use Rattle.stm_journal.specs.declared.holding.Holding.TheVariants as holds

-- a seat that makes an event that hands nothing in
pub asked_turn : (old new : Journaled) (seat : ℕ) (holding : Holding) (event : Event) (answer : CoreAnswer) → IsNoFinish event → Makes old.core.state holding event → IsJournalStep old new seat event answer
    → answer ≢ Refused OutOfMemory → HasTurned old seat holding (then_holds holding answer) new
asked_turn old new seat holding event answer plain makes step room =
    elim step.answers [
      | inl a ↦ (
        entered seat event answer,
        step.entries,
        inr
            (record {
              event = event;
              answer = answer;
              makes = makes;
              stood = asked_stands old.core seat event answer new.core plain a room;
              answered = a;
              enters = refl;
              held = refl;
            }),
      )
      | inr full ↦ absurd (room full.0)
    ]

-- an execution of what was logged is not refused for other reads
own_reads : (s : State) (v : Version) (x : Executed) (t : State) → IsAt s.frames v.index x.frame → keys_read x.reads ≡ needs_on (slot s v.index).log x.frame
    → Agrees x.reads (log_rows (slot s v.index).log) → AllByRecursion (IsLogged (slot s v.index).log) (needs_on (slot s v.index).log x.frame) → ¬ FinishStep s v x (Err OtherReads) t
own_reads s v x t at keys agrees logged step =
    let un = undecided s v x t at keys agrees step in
    un.undecided (subst (λ (f : Frame). AllByRecursion (IsLogged (slot s v.index).log) (needs_on (slot s v.index).log f)) (one_at s.frames v.index x.frame un.frame at un.at) logged)

-- an execution that is answered so answers its event
finish_answered : (old : Play) (seat : ℕ) (v : Version) (x : Executed) (answer : CoreAnswer) (new : Play) → FinishAnswers old v x answer new → Answers old seat (Finish v) answer new
finish_answered old seat v x (Finished handed) new step = (x, step)
finish_answered old seat v x (Refused NotRunning) new step = (step.0.1.0, same_still old new step.0.1.1 step.1)
finish_answered old seat v x (Refused fault) new step = (x, step)
finish_answered old seat v x answer new step = absurd step

stood_finish : (old : Play) (v : Version) (x : Executed) (answer : CoreAnswer) (new : Play) → FinishAnswers old v x answer new → ¬ FinishStep old.state v x (Err OtherReads) new.state → answer ≢ Refused OutOfMemory → stands answer ≡ true
stood_finish old v x (Finished handed) new step own room = refl
stood_finish old v x (Refused OtherReads) new step own room = absurd (own step.0.1)
stood_finish old v x (Refused OutOfMemory) new step own room = absurd (room refl)
stood_finish old v x (Refused fault) new step own room = refl
stood_finish old v x answer new step own room = absurd step

-- a seat that hands its execution in
pub finish_turn : (old new : Journaled) (seat : ℕ) (v : Version) (x : Executed) (answer : CoreAnswer) → IsAt old.core.state.frames v.index x.frame
    → keys_read x.reads ≡ needs_on (slot old.core.state v.index).log x.frame → Agrees x.reads (log_rows (slot old.core.state v.index).log)
    → AllByRecursion (IsLogged (slot old.core.state v.index).log) (keys_read x.reads) → FinishAnswersTo old.core v x answer new.core
    → new.entries ≡ old.entries ++ entered seat (Finish v) answer → answer ≢ Refused OutOfMemory → HasTurned old seat (holds.Execution v) (then_holds (holds.Execution v) answer) new
finish_turn old new seat v x answer at keys agrees logged step are room =
    let s = old.core.state in
    let needed : AllByRecursion (IsLogged (slot s v.index).log) (needs_on (slot s v.index).log x.frame) = subst (AllByRecursion (IsLogged (slot s v.index).log)) keys logged in
    elim step [
      | inl a ↦ (
        entered seat (Finish v) answer,
        are,
        inr
            (record {
              event = Finish v;
              answer = answer;
              makes = (refl, (x.frame, at, needed));
              stood = stood_finish old.core v x answer new.core a (own_reads s v x new.core.state at keys agrees needed) room;
              answered = finish_answered old.core seat v x answer new.core a;
              enters = refl;
              held = refl;
            }),
      )
      | inr full ↦ absurd (room full.0)
    ]

-- a version reads the first row that wasn't logged
pub makes_read : (s : State) (v : Version) (frame : Frame) (keys : List RowKey) (row : RowKey) → IsAt s.frames v.index frame → keys ≡ needs_on (slot s v.index).log frame → IsFirstUnlogged (slot s v.index).log keys row → Makes s (holds.Execution v) (Read v row)
makes_read s v frame keys row at are first = (refl, (frame, at, subst (λ (rows : List RowKey). IsFirstUnlogged (slot s v.index).log rows row) are first))

-- a turn that enters its event is a step of the play
acted : (old : Play) (seat : ℕ) (holding : Holding) (made : List Entry) (next : Holding) (new : Play) (acts : Acts old seat holding made next new) → EntryStep old (record { seat = seat; event = acts.event }) new
acted old seat holding made next new acts = (acts.answer, acts.stood, acts.answered)

-- a turn leads from a state of a run to one
pub turn_reached : (old : Play) (seat : ℕ) (holding : Holding) (made : List Entry) (next : Holding) (new : Play) → IsReached old.state → IsTurn old seat holding made next new → IsReached new.state
turn_reached old seat holding made next new reached turn =
    elim turn [
      | inl rests ↦ subst (λ (p : Play). IsReached p.state) (sym rests.3) reached
      | inr acts ↦ reached_play old (record { seat = seat; event = acts.event } ∷ []) new reached (new, acted old seat holding made next new acts, refl)
    ]

-- a turn keeps the bodies
pub turn_frames : (old : Play) (seat : ℕ) (holding : Holding) (made : List Entry) (next : Holding) (new : Play) → IsTurn old seat holding made next new → new.state.frames ≡ old.state.frames
turn_frames old seat holding made next new turn =
    elim turn [
      | inl rests ↦ ap (λ (p : Play). p.state.frames) rests.3
      | inr acts ↦ EntryStep-frames old (record { seat = seat; event = acts.event }) new (acted old seat holding made next new acts)
    ]

-- a version that is claimed is one of the messages
claimed_there : (p : Play) (seat : ℕ) (event : Event) (v : Version) (t : Play) → Makes p.state holds.Nothing event → Answers p seat event (Claimed (task.Execute v)) t → v.index < length p.state.board.marks
claimed_there p seat Claim v t makes a = a.0.1.0
claimed_there p seat event v t makes a = absurd makes

message_after : (p : Play) (seat : ℕ) (holding : Holding) (event : Event) (answer : CoreAnswer) (t : Play) → IsReached p.state → IsOfMessage (length p.state.frames) holding → Makes p.state holding event → Answers p seat event answer t
    → IsOfMessage (length p.state.frames) (then_holds holding answer)
message_after p seat holds.Nothing event (Claimed (task.Execute v)) t reached within makes a = subst (λ (n : ℕ). v.index < n) (Holds-reached p.state reached).paired (claimed_there p seat event v t makes a)
message_after p seat (holds.Execution v) event (Got (got.Row value)) t reached within makes a = within
message_after p seat (holds.Execution v) event (Finished true) t reached within makes a = tt
message_after p seat (holds.Execution v) event (Finished false) t reached within makes a = tt
message_after p seat (holds.Validation v) event (Validating true) t reached within makes a = tt
message_after p seat (holds.Validation v) event (Validating false) t reached within makes a = tt
message_after p seat holds.Reads event (Validating true) t reached within makes a = tt
message_after p seat holds.Reads event (Validating false) t reached within makes a = tt
message_after p seat holds.Commits event (Committed true) t reached within makes a = tt
message_after p seat holds.Commits event (Committed false) t reached within makes a = tt
message_after p seat holds.Verdict event (Ended passed) t reached within makes a = tt
message_after p seat holding event answer t reached within makes a = tt

-- what a seat holds after its turn is of one of the messages
pub turn_message : (old : Play) (seat : ℕ) (holding : Holding) (made : List Entry) (next : Holding) (new : Play) → IsReached old.state → IsOfMessage (length old.state.frames) holding → IsTurn old seat holding made next new → IsOfMessage (length old.state.frames) next
turn_message old seat holding made next new reached within turn =
    elim turn [
      | inl rests ↦ subst (IsOfMessage (length old.state.frames)) (sym rests.2) within
      | inr acts ↦ subst (IsOfMessage (length old.state.frames)) (sym acts.held) (message_after old seat holding acts.event acts.answer new reached within acts.makes acts.answered)
    ]
