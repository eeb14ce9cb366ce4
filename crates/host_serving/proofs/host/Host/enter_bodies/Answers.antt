use Rattle.std.proofs.Common.{List, ℕ, sym, subst, refl}
use Rattle.std.proofs.lemmas.Result.{err_from_is_err_and}
use Rattle.link_frames.specs.Incoming.{merged}
use Rattle.link_frames.specs.Replies.{AppendsPart}
use Rattle.link_frames.specs.declared.network_request.NetworkRequest.{NetworkRequest}
use Rattle.host_serving.specs.Deciding.{Decides}
use Rattle.host_serving.specs.Entering.{Grows}
use Rattle.host_serving.specs.Serving.{LogAfter}
use Rattle.host_serving.specs.declared.host_fault.HostFault.TheVariants.{Link, OutOfMemory}
use Rattle.host_serving.proofs.Appendings.{entered, may_enter, not_entered, on_ok}
use Rattle.host_serving.proofs.Servings.{stops_appending, stops_deciding, enters_whole, stops_whole}
use Rattle.host_serving.proofs.Watches.{untold, told_one, untold_appending}
use Rattle.host_serving.proofs.host.Host.enter_bodies.Goals as goal

pub returns-in_err-decided-clause-err : goal.returns-in_err-decided-clause-err
returns-in_err-decided-clause-err g c incoming is =
    let p = err_from_is_err_and c.from_residual.result c.from_residual.ensures.1 in
    let both = c.decide_and_append-decided in
    let file = g.G.GrowingFile in
    let text = g.W.Sink.written c.args.sink.now in
    rw (p.1, p.2) (stops_deciding file.is_known file.synced file.unsynced incoming c.args.turn c.args.self.now record { decider = both.new.decider; log = both.new.log } both.result.1
    (g.W.Sink.is_known c.args.sink.now) text text is both.ensures.appended refl)

pub returns-in_err-synced-clause-err : goal.returns-in_err-synced-clause-err
returns-in_err-synced-clause-err g c incoming is =
    let p = err_from_is_err_and c.from_residual-in_err-synced.result c.from_residual-in_err-synced.ensures.1 in
    let both = c.decide_and_append-decided in
    let file = g.G.GrowingFile in
    let none = not_entered file.is_known file.synced file.unsynced c.args.self.now.log both.new.log c.args.turn.bodies both.result.1 c.in_err-synced.field-0.0 both.ensures.appended c.in_err-synced.was in
    let text = g.W.Sink.written c.args.sink.now in
    rw (p.1, p.2) (stops_appending file.is_known file.synced file.unsynced c.in_err-synced.field-0.0 incoming c.args.turn c.args.self.now record { decider = both.new.decider; log = both.new.log }
    (g.W.Sink.is_known c.args.sink.now) text text is (on_ok both.result.0 both.ensures.decided c.in_ok-decided.was)
    none.0 none.1 none.2 refl)

pub answer-requires : goal.answer-requires
answer-requires g c =
    let both = c.decide_and_append-decided in
    let file = g.G.GrowingFile in
    record {
      ahead = (
        c.args.self.now.decider,
        subst (λ (bodies : List (List ℕ)). Decides bodies c.args.self.now.decider both.new.decider) (sym (entered file.is_known file.synced file.unsynced c.args.self.now.log both.new.log c.args.turn.bodies both.result.1 c.in_ok-synced.synced both.ensures.appended c.in_ok-synced.was).0)
            (on_ok both.result.0 both.ensures.decided c.in_ok-decided.was),
      );
    }

pub returns-in_err-answer-clause-err : goal.returns-in_err-answer-clause-err
returns-in_err-answer-clause-err g c incoming is =
    let p = err_from_is_err_and c.from_residual-in_err-answer.result c.from_residual-in_err-answer.ensures.1 in
    let both = c.decide_and_append-decided in
    let file = g.G.GrowingFile in
    let sink = g.W.Sink in
    let had = sink.written c.args.sink.now in
    let has = sink.written c.answer.new.sink in
    rw (p.1, p.2) (stops_whole file.is_known file.synced file.unsynced incoming c.args.turn c.args.self.now record { decider = both.new.decider; log = both.new.log } is c.requires.some
    (on_ok both.result.0 both.ensures.decided c.in_ok-decided.was) (entered file.is_known file.synced file.unsynced c.args.self.now.log both.new.log c.args.turn.bodies both.result.1 c.in_ok-synced.synced both.ensures.appended c.in_ok-synced.was).1
    c.in_err-answer.field-0.0 (sink.is_known c.args.sink.now) had has
    (λ known. subst (λ (x : List NetworkRequest). AppendsPart had has (merged x both.new.decider.prefix.replies.items)) c.deref.ensures.value (c.in_err-answer.ensures.err known))
    c.in_err-answer.ensures.kinds)

pub returns-clause-ok : goal.returns-clause-ok
returns-clause-ok g c incoming is =
    let both = c.decide_and_append-decided in
    let file = g.G.GrowingFile in
    let sink = g.W.Sink in
    let had = sink.written c.args.sink.now in
    let has = sink.written c.answer.new.sink in
    enters_whole file.is_known file.synced file.unsynced incoming c.args.turn c.args.self.now record { decider = both.new.decider; log = both.new.log } is c.requires.some
    (on_ok both.result.0 both.ensures.decided c.in_ok-decided.was) (entered file.is_known file.synced file.unsynced c.args.self.now.log both.new.log c.args.turn.bodies both.result.1 c.in_ok-synced.synced both.ensures.appended c.in_ok-synced.was).1
    (sink.is_known c.args.sink.now) had has
    (λ known. rw c.deref.ensures.value at (c.in_ok-answer.ensures.ok known))

pub returns-clause-frames : goal.returns-clause-frames
returns-clause-frames g c =
    let both = c.decide_and_append-decided in
    on_ok both.result.0 both.ensures.frames c.in_ok-decided.was

pub returns-in_err-decided-clause-told_before : goal.returns-in_err-decided-clause-told_before
returns-in_err-decided-clause-told_before g c most few =
    let p = err_from_is_err_and c.from_residual.result c.from_residual.ensures.1 in
    let both = c.decide_and_append-decided in
    let file = g.G.GrowingFile in
    let before = c.args.self.now.decider.tally in
    let log = c.args.self.now.log in
    rw (p.1, p.2) (
      before,
      untold most g.N.Watch.hears (LogAfter file.is_known file.synced file.unsynced OutOfMemory log both.new.log) c.args.watch.now before
          (c.args.turn.bodies, may_enter file.is_known file.synced file.unsynced log both.new.log c.args.turn.bodies both.result.1 both.ensures.appended),
    )

pub returns-in_err-synced-clause-told_before : goal.returns-in_err-synced-clause-told_before
returns-in_err-synced-clause-told_before g c most few =
    let p = err_from_is_err_and c.from_residual-in_err-synced.result c.from_residual-in_err-synced.ensures.1 in
    let both = c.decide_and_append-decided in
    let file = g.G.GrowingFile in
    let none = not_entered file.is_known file.synced file.unsynced c.args.self.now.log both.new.log c.args.turn.bodies both.result.1 c.in_err-synced.field-0.0 both.ensures.appended c.in_err-synced.was in
    rw (p.1, p.2) (untold_appending most g.N.Watch.hears file.is_known file.synced file.unsynced c.in_err-synced.field-0.0 c.args.self.now.log both.new.log c.args.watch.now c.args.self.now.decider.tally
    c.args.turn.bodies none.0 none.1 none.2)

pub returns-in_err-answer-clause-told_before : goal.returns-in_err-answer-clause-told_before
returns-in_err-answer-clause-told_before g c most few =
    let p = err_from_is_err_and c.from_residual-in_err-answer.result c.from_residual-in_err-answer.ensures.1 in
    let both = c.decide_and_append-decided in
    let file = g.G.GrowingFile in
    let tally = both.new.decider.tally in
    rw (p.1, p.2) (
      tally,
      told_one most g.N.Watch.hears (LogAfter file.is_known file.synced file.unsynced (Link c.in_err-answer.field-0.0) c.args.self.now.log both.new.log)
          c.args.watch.now c.entry_synced.new.self c.args.self.now.decider.tally tally c.args.turn.bodies both.new.decider.frames.items
          (entered file.is_known file.synced file.unsynced c.args.self.now.log both.new.log c.args.turn.bodies both.result.1 c.in_ok-synced.synced both.ensures.appended c.in_ok-synced.was).1
          few (on_ok both.result.0 both.ensures.frames c.in_ok-decided.was) (rw (c.tally-before.ensures, c.frames.ensures) at c.entry_synced.ensures)
          (on_ok both.result.0 both.ensures.tally c.in_ok-decided.was),
    )

pub returns-clause-told : goal.returns-clause-told
returns-clause-told g c most few =
    let both = c.decide_and_append-decided in
    let file = g.G.GrowingFile in
    let tally = both.new.decider.tally in
    told_one most g.N.Watch.hears (Grows file.is_known file.synced file.unsynced c.args.self.now.log both.new.log)
    c.args.watch.now c.entry_synced.new.self c.args.self.now.decider.tally tally c.args.turn.bodies both.new.decider.frames.items
    (entered file.is_known file.synced file.unsynced c.args.self.now.log both.new.log c.args.turn.bodies both.result.1 c.in_ok-synced.synced both.ensures.appended c.in_ok-synced.was).1
    few (on_ok both.result.0 both.ensures.frames c.in_ok-decided.was) (rw (c.tally-before.ensures, c.frames.ensures) at c.entry_synced.ensures)
    (on_ok both.result.0 both.ensures.tally c.in_ok-decided.was)
