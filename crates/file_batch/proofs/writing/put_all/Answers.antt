use Rattle.std.proofs.Common.{◌∙◌}
use Rattle.file_devices.proofs.Puts.{none_failed, puts_more, all_put}
use Rattle.file_batch.proofs.writing.put_all.Goals as goal

pub loop-rest-preserved : goal.loop-rest-preserved
loop-rest-preserved g c =
    let so_far = c.loop-rest.invariant in
    let put = c.in-Ok.ensures in
    record {
      device = record {
        failed = put.failed ∙ none_failed c.in-Ok.count (g.W.Sink.has_failed c.loop-rest.sink) c.in-Ok.count-test.1 ∙ so_far.device.failed;
        fault = tt;
        may = λ may. so_far.device.may (put.may may);
        known = λ known. put.known (so_far.device.known known);
      };
      bytes = λ known. puts_more (g.W.Sink.written c.args.sink.now) (g.W.Sink.written c.loop-rest.sink) (g.W.Sink.written c.put.new.self) c.args.bytes.now c.loop-rest.rest.now c.in-Ok.count
          (so_far.bytes known) (put.bytes (so_far.device.known known));
    }

pub returns-clause-ok : goal.returns-clause-ok
returns-clause-ok g c = λ known.
    all_put (g.W.Sink.written c.args.sink.now) (g.W.Sink.written c.loop-rest.sink) c.args.bytes.now c.loop-rest.rest.now (c.loop-rest.invariant.bytes known) c.loop-rest-test.ensures
