-- The words of the board and the cursors, from one place.
pub use Rattle.stm_scheduler.specs.Board.{Board, IsFloored, IsOpen, IsReady, IsRunning, IsWaitedFor}
pub use Rattle.stm_scheduler.specs.Board.{claimed, finished, floor, fresh_mark, lowered, mark}
pub use Rattle.stm_scheduler.specs.Board.{passed, unstamped, with_mark, woken, woken_status}
pub use Rattle.stm_scheduler.specs.Cursors.{Chooses, Claims, IsLoweredToWaiting, Schedule}
pub use Rattle.stm_scheduler.specs.Cursors.{open_schedule}
pub use Rattle.stm_scheduler.specs.Sound.{AreWaitLists, IsHighest, IsSound, WaitList}
