use Rattle.host_commands.proofs.Repeats.{stays}
use Rattle.host_commands.proofs.laws.a_host_stays_behind_its_log.Goals as goal

pub returns : goal.returns
returns g c = λ opening digest entries more messages others.
    let file = g.G.GrowingFile in
    stays file.is_known file.synced file.unsynced opening digest entries more messages others c.args.old.now c.args.new.now
