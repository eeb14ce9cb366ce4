use Rattle.std.proofs.Common.{sym, subst, arith}
use Rattle.std.proofs.lemmas.List.Edits.{length-between}
use Rattle.link_frames.specs.Link.{IsNoFrame}
use Rattle.link_frames.proofs.Parts.{part_rest, part_both}
use Rattle.link_frames.proofs.reader.LinkReader.give.Goals as goal

pub returns-clause-order : goal.returns-clause-order
returns-clause-order c =
    let self = c.args.self.now in
    part_both self.buffer.items self.given self.end c.frames_of-frames.result.size (omega (arith, c.frames_of-frames.ensures.within, length-between self.buffer.items self.given self.end self.within, self.kept))

pub returns-clause-all : goal.returns-clause-all
returns-clause-all c = λ few.
    let self = c.args.self.now in
    subst IsNoFrame (sym (part_rest self.buffer.items self.given self.end c.frames_of-frames.result.size (omega (arith, c.frames_of-frames.ensures.within, length-between self.buffer.items self.given self.end self.within, self.kept)))) (rw c.deref.ensures.value at (c.frames_of-frames.ensures.all few))
