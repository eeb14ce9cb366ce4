use Rattle.std.proofs.Common.{[], List, subst}
use Rattle.std.proofs.lemmas.Result.{err_from_is_err_and}
use Rattle.link_frames.specs.Incoming.{merged}
use Rattle.link_frames.specs.Replies.{AppendsPart}
use Rattle.link_frames.specs.declared.network_request.NetworkRequest.{NetworkRequest}
use Rattle.host_serving.proofs.Appendings.{grows_none}
use Rattle.host_serving.proofs.Servings.{enters_alone, stops_alone}
use Rattle.host_serving.proofs.host.Host.answer_requests.Goals as goal

pub returns-in_err-write-clause-err : goal.returns-in_err-write-clause-err
returns-in_err-write-clause-err g c incoming is =
    let p = err_from_is_err_and c.from_residual.result c.from_residual.ensures.1 in
    let file = g.G.GrowingFile in
    let sink = g.W.Sink in
    let had = sink.written c.args.sink.now in
    let has = sink.written c.write.new.sink in
    rw (p.1, p.2) (stops_alone file.is_known file.synced file.unsynced incoming c.args.turn c.args.self.now is c.requires.none c.in_err-write.field-0.0 (sink.is_known c.args.sink.now) had has
    (λ known. subst (λ (x : List NetworkRequest). AppendsPart had has (merged x [])) c.deref.ensures.value (c.in_err-write.ensures.err known)) c.in_err-write.ensures.kinds)

pub returns-clause-ok : goal.returns-clause-ok
returns-clause-ok g c incoming is =
    let file = g.G.GrowingFile in
    let sink = g.W.Sink in
    let had = sink.written c.args.sink.now in
    let has = sink.written c.write.new.sink in
    enters_alone file.is_known file.synced file.unsynced incoming c.args.turn c.args.self.now is c.requires.none (sink.is_known c.args.sink.now) had has
    (λ known. rw c.deref.ensures.value at (c.in_ok-write.ensures.ok known))

pub returns-in_err-write-clause-log : goal.returns-in_err-write-clause-log
returns-in_err-write-clause-log g c =
    let p = err_from_is_err_and c.from_residual.result c.from_residual.ensures.1 in
    let file = g.G.GrowingFile in
    rw (p.1, p.2) (grows_none file.is_known file.synced file.unsynced c.args.self.now.log)
