use Rattle.std.proofs.Common.{length, ap, arith}
use Rattle.host_serving.proofs.Takes.{as_many}
use Rattle.host_serving.proofs.decider.Decider.decide.Goals as goal

pub decide_each-requires : goal.decide_each-requires
decide_each-requires g c =
    record { room = omega (arith, ap length c.deref.ensures.value, as_many c.args.bodies.now c.read_frames.new.frames.items c.in_ok-read_frames.ensures, c.len-count.ensures.are.0) }
