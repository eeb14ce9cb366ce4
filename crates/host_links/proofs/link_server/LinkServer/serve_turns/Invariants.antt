use Rattle.std.proofs.Common.{◌≡◌}
use Rattle.link_frames.specs.Reader.{ahead}
use Rattle.host_links.specs.Lines.{LinkServed}
use Rattle.host_links.specs.Turns.{turns_of}
use Rattle.host_links.proofs.link_server.LinkServer.serve_turns.Given as goal

-- what came so far was served
abbrev pub invariant-loop : goal.invariant-loop
invariant-loop g l = record {
  source : g.I.Source.is_known l.fn.source → g.I.Source.is_known l.source;
  sink : g.O.Sink.is_known l.fn.sink → g.O.Sink.is_known l.sink;
  count : turns_of l.link l.state.front ≡ l.state.count;
  so_far : LinkServed l.link g.J.Before.opening l.state.front (g.I.Source.is_known l.fn.source) (g.I.Source.remaining l.fn.source) (ahead l.state.reader (g.I.Source.remaining l.source))
      (g.O.Sink.is_known l.fn.sink) (g.O.Sink.written l.fn.sink) (g.O.Sink.written l.sink);
}
