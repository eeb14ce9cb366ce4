use Rattle.std.proofs.Common.{refl, subst, List, ℕ}
use Rattle.std.proofs.lemmas.Result.{err_from_is_err_and}
use Rattle.link_frames.specs.Reader.{ahead}
use Rattle.link_frames.specs.Replies.{AppendsPart}
use Rattle.host_links.proofs.ServedLaws.{stays}
use Rattle.host_links.proofs.link_server.LinkServer.serve_next.Goals as goal

pub returns-in_err-count-clause-err : goal.returns-in_err-count-clause-err
returns-in_err-count-clause-err g c =
    let p = err_from_is_err_and c.from_residual.result c.from_residual.ensures.1 in
    rw p.1 (stays c.args.link g.J.Before.opening c.args.state.now.front c.args.state.now.front _ _ _ _ refl)

pub returns-in_err-take_turn-clause-err : goal.returns-in_err-take_turn-clause-err
returns-in_err-take_turn-clause-err g c =
    let p = err_from_is_err_and c.from_residual-in_err-take_turn.result c.from_residual-in_err-take_turn.ensures.1 in
    rw p.1 (stays c.args.link g.J.Before.opening c.args.state.now.front c.args.state.now.front _ _ _ _ refl)

pub returns-in_err-serve_locked-clause-err : goal.returns-in_err-serve_locked-clause-err
returns-in_err-serve_locked-clause-err g c =
    let p = err_from_is_err_and c.from_residual-in_err-serve_locked.result c.from_residual-in_err-serve_locked.ensures.1 in
    rw p.1 (stays c.args.link g.J.Before.opening c.args.state.now.front c.serve_locked.new.state.front _ _ _ _ c.in_err-serve_locked.ensures.err)

pub returns-in_err-put_all-clause-err : goal.returns-in_err-put_all-clause-err
returns-in_err-put_all-clause-err g c =
    let p = err_from_is_err_and c.from_residual-in_err-put_all.result c.from_residual-in_err-put_all.ensures.1 in
    let source = g.I.Source in
    let sink = g.O.Sink in
    rw p.1 (
      ahead c.next.new.self (source.remaining c.next.new.source),
      record {
        bytes = _;
        replies = c.serve_locked.new.state.buffers.replies.items;
        came = c.in_ok-serve_locked.ensures.came;
        read = c.next.ensures.order;
        given = c.in_ok-serve_locked.ensures.given;
        answered = λ known. subst (λ (x : List ℕ). AppendsPart (sink.written c.args.sink.now) (sink.written c.put_all.new.sink) x) c.deref.ensures.value (c.in_err-put_all.ensures.err known);
      },
    )
