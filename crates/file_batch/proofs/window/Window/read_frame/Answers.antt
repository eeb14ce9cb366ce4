use Rattle.std.proofs.Common.{◌+◌}
use Rattle.file_batch.specs.Window.{part}
use Rattle.file_batch.proofs.window.Window.read_frame.Goals as goal

pub returns-in-Some-clause-gives : goal.returns-in-Some-clause-gives
returns-in-Some-clause-gives g c = λ known.
    let self = c.args.self.now in
    let begin = self.start + 2 in (
      part self.piece.items begin (begin + c.in-Some.size),
      c.in-Some.ensures.next (g.R.Source.remaining c.args.source.now),
      rw c.deref.ensures.value at c.frame_of-frame.ensures,
    )
