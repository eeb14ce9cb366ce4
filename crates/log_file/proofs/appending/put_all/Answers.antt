use Rattle.log_file.proofs.Puts.{fails}
use Rattle.log_file.proofs.appending.put_all.Goals as goal

pub returns-in-Err-clause-err : goal.returns-in-Err-clause-err
returns-in-Err-clause-err g c = λ known.
    fails (g.G.GrowingFile.unsynced c.args.file.now) (g.G.GrowingFile.unsynced c.loop-rest.file) (g.G.GrowingFile.unsynced c.put.new.self) c.args.bytes.now c.loop-rest.rest.now
    (c.loop-rest.invariant.bytes known) (c.in-Err.ensures.part (c.loop-rest.invariant.device.known known))
