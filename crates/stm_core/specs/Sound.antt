-- What holds of a core.
use Rattle.std.specs.Prelude.{◌<◌, ◌≤◌, ◌^◌, length}
use Rattle.stm_core_laws.specs.Words.{Holds, IsReached, State}

-- a state of a run, and so all that holds of one; of at most 65,536 messages, and with limits that fit their numbers
pub record IsSoundCore (s : State) : Type 0 where
  pub reached : IsReached s
  pub holds : Holds s
  pub few : length s.frames ≤ 65536
  pub incarnation : s.limits.incarnation < 2 ^ 32
  pub epoch : s.limits.epoch < 2 ^ 64
