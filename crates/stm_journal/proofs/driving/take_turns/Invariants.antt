use Rattle.std.proofs.Common.{◌≡◌, length, take}
use Rattle.stm_core_laws.specs.Words.{IsReached, seats}
use Rattle.stm_journal.proofs.Drives.{AreOfMessages}
use Rattle.stm_journal.proofs.driving.take_turns.Given as goal
use Rattle.stm_journal.specs.Drives.{IsDriven, empty_hands}

abbrev pub invariant-loop-index : goal.invariant-loop-index
invariant-loop-index l = record {
  driven : IsDriven l.fn.traced.core empty_hands (take l.index l.seats) l.traced.entries l.traced.core l.hands.items;
  hands : length l.hands.items ≡ seats;
  bodies : l.traced.core.state.frames ≡ l.frames;
  reached : IsReached l.traced.core.state;
  messages : AreOfMessages (length l.frames) l.hands.items;
}
