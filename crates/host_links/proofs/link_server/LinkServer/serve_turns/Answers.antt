use Rattle.std.proofs.Common.{rules, ap, sym, ◌∙◌}
use Rattle.std.proofs.lemmas.Result.{err_from_is_err_and}
use Rattle.link_frames.specs.Reader.{kept}
use Rattle.host_links.specs.Turns.{turns_of}
use Rattle.host_links.proofs.ServedLaws.{none_served, served_on, stopped_on, stopped_at, ended}
use Rattle.host_links.proofs.link_server.LinkServer.serve_turns.Goals as goal

pub loop-init : goal.loop-init
loop-init g c =
    let fresh = c.requires in
    record {
      source = λ known. known;
      sink = λ known. known;
      count = ap (turns_of c.args.link) fresh.unseen ∙ sym fresh.count;
      so_far = none_served c.args.link g.J.Before.opening c.args.state.now.front _ _ (kept c.args.state.now.reader) _ _ fresh.unseen fresh.none;
    }

pub returns-in_err-serve_next : goal.returns-in_err-serve_next
returns-in_err-serve_next g c =
    let p = err_from_is_err_and c.from_residual.result c.from_residual.ensures.1 in
    let before = c.loop.invariant in
    let next = c.in_err-serve_next.ensures in
    record {
      count = next.count;
      sink = λ known. next.sink (before.sink known);
      ok = rw p.1 tt;
      stopped = rw p.1 (stopped_on c.args.link g.J.Before.opening c.loop.state.front c.serve_next.new.state.front _ _ _ _ _ _ _ _ _ before.source before.sink before.so_far next.err);
    }

pub loop-preserved : goal.loop-preserved
loop-preserved g c =
    let before = c.loop.invariant in
    record {
      source = λ known. c.in_ok-serve_next.ensures.source (before.source known);
      sink = λ known. c.in_ok-serve_next.ensures.sink (before.sink known);
      count = c.in_ok-serve_next.ensures.count;
      so_far = served_on c.args.link g.J.Before.opening c.loop.state.front c.serve_next.new.state.front _ _ _ _ _ _ _ _ _ _ before.source before.sink before.so_far
          (c.in_ok-serve_next.ensures.next (search rules));
    }

pub returns-then-not-branch : goal.returns-then-not-branch
returns-then-not-branch g c =
    let before = c.loop.invariant in
    let next = c.in_ok-serve_next.ensures in
    let end = next.end (search rules) in
    record {
      count = next.count;
      sink = λ known. next.sink (before.sink known);
      ok = ended c.args.link g.J.Before.opening c.loop.state.front c.serve_next.new.state.front _ _ _ _ _ _ _ _ before.source before.so_far end.0 (ap g.O.Sink.written end.1) end.2;
      stopped = tt;
    }

pub returns : goal.returns
returns g c =
    let before = c.loop.invariant in
    record {
      count = before.count;
      sink = before.sink;
      ok = tt;
      stopped = stopped_at c.args.link g.J.Before.opening c.loop.state.front _ _ _ _ _ _ before.so_far;
    }
