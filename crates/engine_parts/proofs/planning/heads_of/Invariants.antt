use Rattle.std.proofs.Common.{◌≡◌, length}
use Rattle.engine_parts.specs.Ties.{HaveFunds, HaveHeads, numbers_of}
use Rattle.engine_parts.proofs.planning.heads_of.Given as goal

-- the messages before this one have their heads
abbrev pub invariant-loop-frame : goal.invariant-loop-frame
invariant-loop-frame l = record {
  funds : HaveFunds l.book (numbers_of l.ties) l.ties.links.items;
  each : length l.heads.items ≡ l.frame-index;
  heads : HaveHeads l.book (numbers_of l.ties) l.ties.links.items l.heads.items l.frames;
}
