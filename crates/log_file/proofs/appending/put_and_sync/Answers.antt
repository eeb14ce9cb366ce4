use Rattle.std.proofs.Common.{◌++◌}
use Rattle.log_file.proofs.Puts.{all_added, always_err}
use Rattle.log_file.proofs.appending.put_and_sync.Goals as goal

-- all of the bytes stand there, though they may not be synced
pub returns-clause-part : goal.returns-clause-part
returns-clause-part g c = always_err c.sync.result (λ known.
    let known' = c.in_ok-put_all.ensures.file.known known in
    all_added (g.G.GrowingFile.synced c.args.file.now) (g.G.GrowingFile.unsynced c.args.file.now) c.args.bytes.now (g.G.GrowingFile.synced c.put_all.new.file) (g.G.GrowingFile.unsynced c.put_all.new.file)
    (g.G.GrowingFile.synced c.sync.new.file ++ g.G.GrowingFile.unsynced c.sync.new.file) (c.in_ok-put_all.ensures.synced known) (c.in_ok-put_all.ensures.ok known) (c.sync.ensures.bytes known'))
