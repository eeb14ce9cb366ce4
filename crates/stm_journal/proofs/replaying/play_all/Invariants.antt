use Rattle.std.proofs.Common.{◌≡◌, take}
use Rattle.stm_journal_text.specs.Plays.{Plays}
use Rattle.stm_journal.proofs.replaying.play_all.Given as goal

abbrev pub invariant-loop-index : goal.invariant-loop-index
invariant-loop-index l = record {
  plays : Plays l.initial.core (take l.index l.entries) l.core;
  bodies : l.core.state.frames ≡ l.frames;
}
