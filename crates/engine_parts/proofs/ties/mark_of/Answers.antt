use Rattle.std.proofs.Common.{◌<◌, ◌^◌, arith}
use Rattle.engine_parts.proofs.ties.mark_of.Goals as goal

pub overflow_add-result : goal.overflow_add-result
overflow_add-result c =
    let time : c.number_of-time.result < 10 ^ 12 = rw c.as_slice-2.ensures.stamp.0 at c.number_of-time.ensures.bound in
    let trace : c.number_of-trace.result < 10 ^ 6 = rw c.as_slice-3.ensures.len at c.number_of-trace.ensures.bound in
    omega (arith, time, trace)
