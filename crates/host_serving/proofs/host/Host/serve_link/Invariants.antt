use Rattle.link_frames.specs.LinkFault.{KeepsSource, KeepsSink}
use Rattle.link_frames.specs.Reader.{ahead}
use Rattle.host_serving.specs.Entering.{Grows}
use Rattle.host_serving.specs.Serving.{Served}
use Rattle.host_serving.specs.Watched.{Watched}
use Rattle.host_serving.proofs.host.Host.serve_link.Given as goal

-- the frames so far were served
abbrev pub invariant-loop : goal.invariant-loop
invariant-loop g l = record {
  source : KeepsSource g.R.Source.is_known g.R.Source.has_failed g.R.Source.may_fail l.fn.source l.source;
  sink : KeepsSink g.W.Sink.is_known g.W.Sink.has_failed g.W.Sink.may_fail l.fn.sink l.sink;
  so_far : Served g.G.GrowingFile.is_known g.G.GrowingFile.synced g.G.GrowingFile.unsynced l.fn.self l.self
      (g.R.Source.is_known l.fn.source) (g.R.Source.remaining l.fn.source) (ahead l.link.reader (g.R.Source.remaining l.source))
      (g.W.Sink.is_known l.fn.sink) (g.W.Sink.written l.fn.sink) (g.W.Sink.written l.sink);
  told : Watched (Grows g.G.GrowingFile.is_known g.G.GrowingFile.synced g.G.GrowingFile.unsynced l.fn.self.log l.self.log) l.most g.N.Watch.hears
      l.fn.watch l.fn.self.decider.tally l.watch l.self.decider.tally;
}
