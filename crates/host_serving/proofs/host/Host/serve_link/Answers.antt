use Rattle.std.proofs.Common.{rules, ◌≡◌, ◌++◌, List, [], inl, ℕ, sym, ap, subst}
use Rattle.std.proofs.lemmas.Result.{err_from_is_err_and}
use Rattle.link_frames.specs.Reader.{ahead}
use Rattle.host_serving.specs.Entering.{Grows}
use Rattle.host_serving.specs.Serving.{LogAfter, Served}
use Rattle.host_serving.specs.declared.host_fault.HostFault.TheVariants.{OutOfMemory}
use Rattle.host_serving.proofs.Appendings.{grows_none}
use Rattle.host_serving.proofs.Servings.{served_none, served_more, stopped_reading, stopped_next}
use Rattle.host_serving.proofs.Watches.{untold, watched_as, watched_more, watched_before}
use Rattle.host_serving.proofs.host.Host.serve_link.Goals as goal

pub returns-in_err-link-clause-stopped : goal.returns-in_err-link-clause-stopped
returns-in_err-link-clause-stopped g c =
    let p = err_from_is_err_and c.from_residual.result c.from_residual.ensures.1 in
    let file = g.G.GrowingFile in
    let reads = g.R.Source.is_known c.args.source.now in
    let bytes = g.R.Source.remaining c.args.source.now in
    let puts = g.W.Sink.is_known c.args.sink.now in
    let text = g.W.Sink.written c.args.sink.now in
    rw (p.1, p.2) (stopped_reading file.is_known file.synced file.unsynced OutOfMemory c.args.self.now c.args.self.now reads reads bytes bytes puts text text (λ known. known)
    (served_none file.is_known file.synced file.unsynced c.args.self.now reads bytes puts text) tt)

pub loop-init : goal.loop-init
loop-init g c =
    let file = g.G.GrowingFile in
    let reads = g.R.Source.is_known c.args.source.now in
    let bytes = g.R.Source.remaining c.args.source.now in
    let puts = g.W.Sink.is_known c.args.sink.now in
    let text = g.W.Sink.written c.args.sink.now in
    let nothing : ahead c.in_ok-link.link.reader bytes ≡ bytes = ap (λ (x : List ℕ). x ++ bytes) c.in_ok-link.ensures in
    record {
      source = search rules;
      sink = search rules;
      so_far = subst (λ (left : List ℕ). Served file.is_known file.synced file.unsynced c.args.self.now c.args.self.now reads bytes left puts text text) (sym nothing)
          (served_none file.is_known file.synced file.unsynced c.args.self.now reads bytes puts text);
      told = untold c.args.most g.N.Watch.hears (Grows file.is_known file.synced file.unsynced c.args.self.now.log c.args.self.now.log) c.args.watch.now c.args.self.now.decider.tally
          (grows_none file.is_known file.synced file.unsynced c.args.self.now.log);
    }

pub returns-in_err-serve_next-clause-stopped : goal.returns-in_err-serve_next-clause-stopped
returns-in_err-serve_next-clause-stopped g c =
    let p = err_from_is_err_and c.from_residual-in_err-serve_next.result c.from_residual-in_err-serve_next.ensures.1 in
    let file = g.G.GrowingFile in
    let source = g.R.Source in
    let sink = g.W.Sink in
    let before = c.loop.invariant in
    rw (p.1, p.2) (stopped_next file.is_known file.synced file.unsynced c.in_err-serve_next.field-0.0 c.args.self.now c.loop.self c.serve_next.new.self
    (source.is_known c.args.source.now) (source.is_known c.loop.source) (source.remaining c.args.source.now) (ahead c.loop.link.reader (source.remaining c.loop.source))
    (sink.is_known c.args.sink.now) (sink.is_known c.loop.sink) (c.serve_next.new.sink ≡ c.loop.sink) (sink.written c.args.sink.now) (sink.written c.loop.sink) (sink.written c.serve_next.new.sink)
    before.source.known before.sink.known (λ same. ap sink.written same) before.so_far c.in_err-serve_next.ensures.err)

pub loop-preserved : goal.loop-preserved
loop-preserved g c =
    let file = g.G.GrowingFile in
    let source = g.R.Source in
    let sink = g.W.Sink in
    let before = c.loop.invariant in
    record {
      source = search rules;
      sink = search rules;
      so_far = served_more file.is_known file.synced file.unsynced c.args.self.now c.loop.self c.serve_next.new.self
          (source.is_known c.args.source.now) (source.is_known c.loop.source) (source.remaining c.args.source.now) (ahead c.loop.link.reader (source.remaining c.loop.source))
          (ahead c.serve_next.new.link.reader (source.remaining c.serve_next.new.source))
          (sink.is_known c.args.sink.now) (sink.is_known c.loop.sink) (sink.written c.args.sink.now) (sink.written c.loop.sink) (sink.written c.serve_next.new.sink)
          before.source.known before.sink.known before.so_far (c.in_ok-serve_next.ensures.next (search rules));
      told = watched_more c.args.most g.N.Watch.hears file.is_known file.synced file.unsynced c.args.self.now.log c.loop.self.log c.serve_next.new.self.log
          c.args.watch.now c.loop.watch c.serve_next.new.watch c.args.self.now.decider.tally c.loop.self.decider.tally c.serve_next.new.self.decider.tally
          before.told (c.in_ok-serve_next.ensures.told (search rules));
    }

pub returns-clause-stopped : goal.returns-clause-stopped
returns-clause-stopped g c =
    let file = g.G.GrowingFile in
    let reads = g.R.Source.is_known c.args.source.now in
    stopped_reading file.is_known file.synced file.unsynced OutOfMemory c.args.self.now c.loop.self reads reads (g.R.Source.remaining c.args.source.now)
    (ahead c.loop.link.reader (g.R.Source.remaining c.loop.source)) (g.W.Sink.is_known c.args.sink.now) (g.W.Sink.written c.args.sink.now) (g.W.Sink.written c.loop.sink) (λ known. known)
    c.loop.invariant.so_far tt

pub returns-in_err-link-clause-told_before : goal.returns-in_err-link-clause-told_before
returns-in_err-link-clause-told_before g c =
    let p = err_from_is_err_and c.from_residual.result c.from_residual.ensures.1 in
    let file = g.G.GrowingFile in
    let before = c.args.self.now.decider.tally in
    let log = c.args.self.now.log in
    rw (p.1, p.2) (
      before,
      untold c.args.most g.N.Watch.hears (LogAfter file.is_known file.synced file.unsynced OutOfMemory log log) c.args.watch.now before
          ([], inl (grows_none file.is_known file.synced file.unsynced log)),
    )

pub returns-in_err-serve_next-clause-told_before : goal.returns-in_err-serve_next-clause-told_before
returns-in_err-serve_next-clause-told_before g c =
    let p = err_from_is_err_and c.from_residual-in_err-serve_next.result c.from_residual-in_err-serve_next.ensures.1 in
    let file = g.G.GrowingFile in
    rw (p.1, p.2) (watched_before c.args.most g.N.Watch.hears file.is_known file.synced file.unsynced c.in_err-serve_next.field-0.0
    c.args.self.now.log c.loop.self.log c.serve_next.new.self.log c.args.watch.now c.loop.watch c.serve_next.new.watch
    c.args.self.now.decider.tally c.loop.self.decider.tally c.loop.invariant.told c.in_err-serve_next.ensures.told_before)

pub returns-clause-told_before : goal.returns-clause-told_before
returns-clause-told_before g c =
    let file = g.G.GrowingFile in (
      c.loop.self.decider.tally,
      watched_as c.args.most g.N.Watch.hears (Grows file.is_known file.synced file.unsynced c.args.self.now.log c.loop.self.log)
          (LogAfter file.is_known file.synced file.unsynced OutOfMemory c.args.self.now.log c.loop.self.log) c.args.watch.now c.loop.watch
          c.args.self.now.decider.tally c.loop.self.decider.tally (λ entries grown. ([], inl grown)) c.loop.invariant.told,
    )

pub returns-then-not-branch-clause-told : goal.returns-then-not-branch-clause-told
returns-then-not-branch-clause-told g c =
    let end = c.in_ok-serve_next.ensures.end (search rules) in
    rw (end.0, c.in_ok-serve_next.ensures.untold (search rules)) c.loop.invariant.told
