use Rattle.std.proofs.Common.{◌<◌, ◌++◌, length, arith, ap, ◌∙◌}
use Rattle.std.proofs.lemmas.List.{length-append}
use Rattle.file_laws.specs.Reading.{ended}
use Rattle.file_batch.specs.Window.{part}
use Rattle.file_batch.proofs.Parts.{length_part}
use Rattle.file_batch.proofs.window.Window.read_end.Goals as goal
use Rattle.file_laws.proofs.Steps.{ended_more}

pub returns-in-Ok-clause-gives : goal.returns-in-Ok-clause-gives
returns-in-Ok-clause-gives g c = λ known of_bytes.
    let after = c.make_ready.new.self in
    let there = part after.piece.items after.start after.end in
    let left = g.R.Source.remaining c.make_ready.new.source in
    let some = c.in-Ok.ensures.some in
    let some_there : 0 < length there = length_part after.piece.items after.start after.end some after.within in
    let some_left : 0 < length (there ++ left) = omega (arith, length-append there left, some_there) in
    ap ended (c.in-Ok.ensures.bytes known) ∙ ended_more (there ++ left) some_left
