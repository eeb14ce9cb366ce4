use Rattle.std.proofs.Common.{length, refl, arith, ap, ◌∙◌}
use Rattle.host_links.proofs.Turnings.{stops_all, turned}
use Rattle.host_links.proofs.turning.turn_at.Goals as goal

pub returns-in-Err-clause-stopped : goal.returns-in-Err-clause-stopped
returns-in-Err-clause-stopped g c =
    let file = g.G.GrowingFile in
    let told = c.in-Err.ensures.told_before (length c.replace-turn.result.bodies) (omega arith) in
    rw c.of_all.ensures (told.1.entries, stops_all file.is_known file.synced file.unsynced c.in-Err.fault _ _ told.1.entries told.1.stand)

pub returns-in-Ok-clause-turned : goal.returns-in-Ok-clause-turned
returns-in-Ok-clause-turned g c =
    let file = g.G.GrowingFile in
    rw c.into_writer.ensures (turned file.is_known file.synced file.unsynced c.args.bytes.now c.new-sink.result.writer.items c.enter.new.sink.writer.items _ c.replace-turn.result c.args.buffers.now.turn
    c.in-Ok.again c.args.host.now c.enter.new.self c.args.link
    c.requires.came c.replace-turn.ensures.value refl (ap (λ w. w.items) c.new-sink.ensures.writer ∙ c.clear.ensures.items) c.in-Ok.ensures.ok c.in-Ok.ensures.kept.0 c.in-Ok.ensures.kept.1
    c.in-Ok.ensures.frames)
