use Rattle.std.proofs.Common.{rules, arith}
use Rattle.file_batch.specs.Window.{part, ahead}
use Rattle.file_batch.proofs.Parts.{moved_on, is_field}
use Rattle.file_batch.proofs.window.Window.read_field.Goals as goal

pub loop-self-preserved : goal.loop-self-preserved
loop-self-preserved g c =
    let so_far = c.loop-self.invariant in
    let ready = c.in_ok-make_ready.ensures in
    let moved = c.in_ok-move_on.ensures in
    let before = c.loop-self.self in
    let there = c.make_ready.new.self in
    let after = c.move_on.new.self in
    let rest = g.R.Source.remaining c.make_ready.new.source in
    record {
      within = grind arith;
      device = search rules;
      bytes = λ known. moved_on (ahead c.args.self.now (g.R.Source.remaining c.args.source.now)) before.field.items (part there.piece.items there.start there.end)
          after.field.items (part after.piece.items after.start after.end) (ahead before (g.R.Source.remaining c.loop-self.source)) rest
          (so_far.bytes known) (ready.bytes (so_far.device.known known)) (rw ready.field at moved.bytes);
    }

pub returns-clause-gives : goal.returns-clause-gives
returns-clause-gives g c = λ known.
    let self = c.loop-self.self in
    is_field c.args.size (ahead c.args.self.now (g.R.Source.remaining c.args.source.now)) self.field.items (ahead self (g.R.Source.remaining c.loop-self.source))
    (c.loop-self.invariant.bytes known) (omega (arith, c.loop-self.invariant.within, c.loop-self-test.false, c.len.ensures, self.field.ok.0))
