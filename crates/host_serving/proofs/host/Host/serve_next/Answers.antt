use Rattle.std.proofs.Common.{List, ℕ, [], inl, inr, length, sym, ap, subst, arith}
use Rattle.std.proofs.lemmas.Result.{err_from_is_err_and}
use Rattle.link_frames.specs.Incoming.{frames_of}
use Rattle.link_frames.specs.Reader.{ahead, given}
use Rattle.host_serving.specs.Serving.{LogAfter}
use Rattle.host_serving.specs.Turn.{IsTurn, HasTaken}
use Rattle.host_serving.specs.declared.host_fault.HostFault.TheVariants.{Link, OutOfMemory}
use Rattle.host_serving.specs.declared.turn.Turn.{Turn}
use Rattle.host_serving.proofs.Appendings.{grows_none}
use Rattle.host_serving.proofs.Takes.{given_came}
use Rattle.host_serving.proofs.Watches.{untold}
use Rattle.host_serving.proofs.host.Host.serve_next.Goals as goal

pub returns-in_err-link-clause-err : goal.returns-in_err-link-clause-err
returns-in_err-link-clause-err g c =
    let p = err_from_is_err_and c.from_residual-in_err-link.result c.from_residual-in_err-link.ensures.1 in
    let before = ahead c.args.link.now.reader (g.R.Source.remaining c.args.source.now) in
    let left = ahead c.next.new.self (g.R.Source.remaining c.next.new.source) in
    let taken = subst (λ (x : List ℕ). HasTaken x [] c.take_turn.new.turn) c.frames.ensures c.in_ok-take_turn.ensures.taken in
    rw (p.1, p.2) (inr record {
      incoming = taken.incoming;
      left = left;
      came = λ known. given_came before (given c.next.new.self) left (frames_of taken.incoming) (c.next.ensures.order known) taken.came;
      are = taken.are;
      stops = c.in_err-link.ensures.err taken.incoming (subst (IsTurn taken.incoming) (sym c.replace-turn.ensures.value) taken.taken);
    })

pub returns-clause-next : goal.returns-clause-next
returns-clause-next g c = λ _.
    let before = ahead c.args.link.now.reader (g.R.Source.remaining c.args.source.now) in
    let left = ahead c.next.new.self (g.R.Source.remaining c.next.new.source) in
    let taken = subst (λ (x : List ℕ). HasTaken x [] c.take_turn.new.turn) c.frames.ensures c.in_ok-take_turn.ensures.taken in
    record {
      incoming = taken.incoming;
      came = λ known. given_came before (given c.next.new.self) left (frames_of taken.incoming) (c.next.ensures.order known) taken.came;
      are = taken.are;
      entered = c.in_ok-link.ensures.ok taken.incoming (subst (IsTurn taken.incoming) (sym c.replace-turn.ensures.value) taken.taken);
    }

pub returns-in_err-count-clause-told_before : goal.returns-in_err-count-clause-told_before
returns-in_err-count-clause-told_before g c =
    let p = err_from_is_err_and c.from_residual.result c.from_residual.ensures.1 in
    let file = g.G.GrowingFile in
    let before = c.args.self.now.decider.tally in
    let log = c.args.self.now.log in
    rw (p.1, p.2) (
      before,
      untold c.args.most g.N.Watch.hears (LogAfter file.is_known file.synced file.unsynced (Link c.in_err-count.field-0.0) log log) c.args.watch.now before
          (grows_none file.is_known file.synced file.unsynced log),
    )

pub returns-in_err-take_turn-clause-told_before : goal.returns-in_err-take_turn-clause-told_before
returns-in_err-take_turn-clause-told_before g c =
    let p = err_from_is_err_and c.from_residual-in_err-take_turn.result c.from_residual-in_err-take_turn.ensures.1 in
    let file = g.G.GrowingFile in
    let before = c.args.self.now.decider.tally in
    let log = c.args.self.now.log in
    rw (p.1, p.2) (
      before,
      untold c.args.most g.N.Watch.hears (LogAfter file.is_known file.synced file.unsynced OutOfMemory log log) c.args.watch.now before
          ([], inl (grows_none file.is_known file.synced file.unsynced log)),
    )

pub returns-in_err-link-clause-told_before : goal.returns-in_err-link-clause-told_before
returns-in_err-link-clause-told_before g c =
    let p = err_from_is_err_and c.from_residual-in_err-link.result c.from_residual-in_err-link.ensures.1 in
    let same = ap (λ (turn : Turn). length turn.bodies) c.replace-turn.ensures.value in
    rw (p.1, p.2) (c.in_err-link.ensures.told_before c.args.most (omega (arith, same, c.in_ok-take_turn.ensures.few, c.in_ok-count.ensures.most, c.count.ensures.value)))

pub returns-clause-told : goal.returns-clause-told
returns-clause-told g c = λ _.
    let same = ap (λ (turn : Turn). length turn.bodies) c.replace-turn.ensures.value in
    c.in_ok-link.ensures.told c.args.most (omega (arith, same, c.in_ok-take_turn.ensures.few, c.in_ok-count.ensures.most, c.count.ensures.value))
