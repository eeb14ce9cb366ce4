-- The words of a core and its runs, from one place.
pub use Rattle.stm_core_laws.specs.Follows.{Follows}
pub use Rattle.stm_core_laws.specs.Holds.{Holds, IsDecidedOn, IsExecutedIn, IsKept}
pub use Rattle.stm_core_laws.specs.Holds.{IsKeptValidation, IsSoundRead}
pub use Rattle.stm_core_laws.specs.Log.{AreLogged, Resolve, ResolvesAs, logged_in, logged_of}
pub use Rattle.stm_core_laws.specs.Play.{Play, PlayStep, opening_play, schedule}
pub use Rattle.stm_core_laws.specs.Run.{Begin, Block, Call, Claim, Commit, End, Finish}
unfoldable pub use Rattle.stm_core_laws.specs.Run.{IsReached}
pub use Rattle.stm_core_laws.specs.Run.{Read, Step, ValidateOne}
pub use Rattle.stm_core_laws.specs.State.{ExecutionSlot, IsAt, Log, MessageState, State, bounded}
pub use Rattle.stm_core_laws.specs.State.{empty_slot, message, message_of, seats, shelf, slot}
pub use Rattle.stm_core_laws.specs.State.{start, validation_of, with_slot, with_validation}
pub use Rattle.stm_core_laws.specs.Step.{BeginStep, BlockStep, CanAbort, ClaimStep, CommitStep}
pub use Rattle.stm_core_laws.specs.Step.{EndStep, FinishStep, HasValidation, IsGotOfKind}
pub use Rattle.stm_core_laws.specs.Step.{IsOfVersion, ReadStep, Validated, ValidationStep}
pub use Rattle.stm_core_laws.specs.Step.{beginning, failed_one, is_at_end, passed_one}
pub use Rattle.stm_core_laws.specs.Step.{with_execution, with_read, without_execution}
pub use Rattle.stm_memory.specs.declared.link.Link.{Link}
pub use Rattle.stm_memory.specs.declared.seen.Seen.{Seen}
pub use Rattle.stm_memory.specs.declared.version.Version.{Version}
pub use Rattle.stm_scheduler.specs.declared.message_progress.MessageProgress.{MessageProgress}
pub use Rattle.stm_scheduler.specs.declared.task.Task.{Task}
