use Rattle.std.proofs.Common.{◌≡◌, ◌<◌, ◌++◌, length}
use Rattle.file_devices.proofs.reading.read_pieces.Given as goal

-- what was read, and what is still to come
abbrev pub invariant-loop : goal.invariant-loop
invariant-loop g l = record {
  some : 0 < length l.piece;
  may : g.S.Source.may_fail l.source → g.S.Source.may_fail l.fn.source;
  known : g.S.Source.is_known l.fn.source → g.S.Source.is_known l.source;
  bytes : g.S.Source.is_known l.fn.source → l.fn.read.items ++ g.S.Source.remaining l.fn.source ≡ l.read.items ++ g.S.Source.remaining l.source;
}
