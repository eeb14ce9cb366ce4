use Rattle.std.proofs.Common.{◌≡◌, ◌++◌, List, ℕ, length}
use Rattle.link_frames.specs.LinkFault.{KeepsSink}
use Rattle.link_frames.proofs.writing.put_all.Given as goal

-- what was written, and the rest
abbrev pub invariant-loop-rest : goal.invariant-loop-rest
invariant-loop-rest g l = record {
  device : KeepsSink g.W.Sink.is_known g.W.Sink.has_failed g.W.Sink.may_fail l.fn.sink l.sink;
  bytes : g.W.Sink.is_known l.fn.sink → (front : List ℕ) × (g.W.Sink.written l.sink ≡ g.W.Sink.written l.fn.sink ++ front) × (l.bytes ≡ front ++ l.rest);
}

abbrev pub decreases-loop-rest : goal.decreases-loop-rest
decreases-loop-rest g l = length l.rest
