use Rattle.std.proofs.Common.{arith}
use Rattle.link_frames.proofs.Runs.{one_more}
use Rattle.link_frames.proofs.frames.frames_of.Goals as goal

pub loop-count-preserved : goal.loop-count-preserved
loop-count-preserved c =
    let so_far = c.loop-count.invariant.frames in
    record {
      most = omega arith;
      frames = one_more c.loop-count.count c.args.bytes.now so_far.0 c.loop-count.rest.now c.in-Frame.field-0.now c.in-Frame.behind.now so_far.1 so_far.2 c.in-Frame.ensures.0 c.in-Frame.ensures.1;
    }
