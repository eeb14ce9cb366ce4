use Rattle.host_serving.proofs.Watches.{untold_alone, untold_stopped}
use Rattle.host_serving.proofs.host.Host.enter.Goals as goal

pub returns-then-is_empty-clause-told : goal.returns-then-is_empty-clause-told
returns-then-is_empty-clause-told g c most few =
    let file = g.G.GrowingFile in
    untold_alone most g.N.Watch.hears file.is_known file.synced file.unsynced c.answer_requests.result c.args.self.now.log c.args.watch.now c.args.self.now.decider.tally

pub returns-then-is_empty-clause-told_before : goal.returns-then-is_empty-clause-told_before
returns-then-is_empty-clause-told_before g c most few =
    let file = g.G.GrowingFile in
    untold_stopped most g.N.Watch.hears file.is_known file.synced file.unsynced c.answer_requests.result c.args.self.now.log c.args.watch.now c.args.self.now.decider.tally c.answer_requests.ensures.log
