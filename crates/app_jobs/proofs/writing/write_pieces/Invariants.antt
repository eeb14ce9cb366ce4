use Rattle.std.proofs.Common.{◌≡◌, ◌++◌}
use Rattle.app_jobs.proofs.writing.write_pieces.Given as goal

-- what was written, with what is still to be made
abbrev pub invariant-loop : goal.invariant-loop
invariant-loop g l = record {
  may : g.W.Sink.may_fail l.sink → g.W.Sink.may_fail l.fn.sink;
  known : g.W.Sink.is_known l.fn.sink → g.W.Sink.is_known l.sink;
  bytes : g.W.Sink.is_known l.fn.sink → g.W.Sink.written l.fn.sink ++ g.P.Pieces.rest l.fn.pieces ≡ g.W.Sink.written l.sink ++ g.P.Pieces.rest l.pieces;
}
