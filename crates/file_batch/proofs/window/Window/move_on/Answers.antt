use Rattle.std.proofs.Common.{rules, ◌≡◌, ◌+◌, ◌++◌, append_assoc, arith, refl}
use Rattle.file_batch.specs.Window.{part}
use Rattle.file_batch.proofs.Parts.{part_split}
use Rattle.file_batch.proofs.window.Window.move_on.Goals as goal

pub returns-clause-bytes : goal.returns-clause-bytes
returns-clause-bytes c =
    let self = c.args.self.now in
    let count = c.min-count.result in
    let split = part_split self.piece.items self.start count self.end (omega arith) in
    let added : c.extend_from_slice.new.self.items ≡ self.field.items ++ part self.piece.items self.start (self.start + count) = search rules in
    rw (added, append_assoc, ← split) refl
