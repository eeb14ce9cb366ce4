-- What a replay does to the core, as steps of a play.
use Rattle.std.proofs.Common.{◌≡◌, ◌≢◌, ℕ, List, refl, sym, ◌∙◌, subst, Ok, Err, true, Bool, ◌<◌, length, get_or}
use Rattle.std.proofs.lemmas.List.{get_or_read}
use Rattle.issuer_words.specs.Words.{Executed, Frame}
use Rattle.stm_core_laws.specs.Words.{IsAt, Play, PlayStep}
use Rattle.stm_journal_text.specs.Words.{Answers, EntryStep, IsNoFinish, stands}
use Rattle.stm_journal_text.specs.declared.core_answer.CoreAnswer.{CoreAnswer}
use Rattle.stm_journal_text.specs.declared.entry.Entry.{Entry}
use Rattle.stm_journal_text.specs.declared.event.Event.{Event}
use Rattle.stm_journal_text.specs.declared.event.Event.TheVariants.{Claim, Read, Block, Finish, BeginValidation, ValidateOne, EndValidation, Commit}
use Rattle.stm_memory.specs.declared.version.Version.{Version}
use Rattle.stm_scheduler.specs.Board.{IsRunning}
use Rattle.stm_core_laws.specs.Run as call
use Rattle.stm_core_laws.specs.declared.core_fault.CoreFault.TheVariants.{NotRunning, OtherReads, OutOfMemory, Exhausted}
pub use Rattle.stm_journal_text.proofs.Decided.{get_logged}
use Rattle.stm_journal_text.specs.declared.core_answer.CoreAnswer.TheVariants.{Finished, Refused}

-- a finish that is played again
pub finished_again : (p : Play) (seat : ℕ) (v : Version) (x : Executed) (handed : Bool) (t : Play) → PlayStep p (call.Finish v x (Ok handed)) t → EntryStep p (record { seat = seat; event = Finish v }) t
finished_again p seat v x handed t step = (Finished handed, refl, (x, step))

pub exhausted_again : (p : Play) (seat : ℕ) (v : Version) (x : Executed) (t : Play) → PlayStep p (call.Finish v x (Err Exhausted)) t → EntryStep p (record { seat = seat; event = Finish v }) t
exhausted_again p seat v x t step = (Refused Exhausted, refl, (x, step))

pub not_finished : (p : Play) (seat : ℕ) (v : Version) → ¬ IsRunning p.state.board v → EntryStep p (record { seat = seat; event = Finish v }) p
not_finished p seat v idle = (Refused NotRunning, refl, (idle, refl))

-- an answer to such an event stands, unless memory ran out
pub asked_stands : (p : Play) (seat : ℕ) (event : Event) (answer : CoreAnswer) (t : Play) → IsNoFinish event → Answers p seat event answer t → answer ≢ Refused OutOfMemory → stands answer ≡ true
asked_stands p seat event (Refused OutOfMemory) t plain a room = absurd (room refl)
asked_stands p seat (Finish v) (Refused OtherReads) t plain a room = absurd plain
asked_stands p seat Claim (Refused OtherReads) t plain a room = absurd a
asked_stands p seat (Read v row) (Refused OtherReads) t plain a room = absurd a.0
asked_stands p seat (Block v on) (Refused OtherReads) t plain a room = absurd a.0
asked_stands p seat (BeginValidation v) (Refused OtherReads) t plain a room = absurd a.0.1
asked_stands p seat ValidateOne (Refused OtherReads) t plain a room = absurd a.0.1
asked_stands p seat EndValidation (Refused OtherReads) t plain a room = absurd a.0.1
asked_stands p seat Commit (Refused OtherReads) t plain a room = absurd a
asked_stands p seat event answer t plain a room = refl

-- an event that hands no execution in stands, unless there was no room
pub asked_again : (p : Play) (entry : Entry) (answer : CoreAnswer) (t : Play) → IsNoFinish entry.event → Answers p entry.seat entry.event answer t → answer ≢ Refused OutOfMemory → EntryStep p entry t
asked_again p entry answer t plain a room = (answer, asked_stands p entry.seat entry.event answer t plain a room, a)

-- a frame that was read at its place stands there
pub at_frame : (frames of_core : List Frame) (i : ℕ) (read frame : Frame) → of_core ≡ frames → i < length frames → read ≡ get_or frames i read → frame ≡ read → IsAt of_core i frame
at_frame frames of_core i read frame same l is e = subst (λ (fs : List Frame). IsAt fs i frame) (sym same) (l, e ∙ get_or_read frames i read l is frame)
