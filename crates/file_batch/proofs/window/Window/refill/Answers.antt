use Rattle.std.proofs.Common.{◌≡◌, ◌<◌, length, refl, sym, ◌∙◌, arith}
use Rattle.std.proofs.lemmas.List.{with_items_is}
use Rattle.file_batch.proofs.Parts.{part_front}
use Rattle.file_batch.proofs.window.Window.refill.Goals as goal

pub returns-clause-bytes : goal.returns-clause-bytes
returns-clause-bytes g c = λ known.
    let piece = c.args.self.now.piece in
    let long : length c.take.new.buffer ≡ piece.len = omega (arith, c.take.auto.buffer, c.as_mut_slice.ensures.len, piece.ok.0) in
    rw (part_front, with_items_is piece c.take.new.buffer long) (c.in-Ok.ensures.bytes known)

pub returns-then-count-eq0-clause-ended : goal.returns-then-count-eq0-clause-ended
returns-then-count-eq0-clause-ended g c = λ of_bytes.
    let some : 0 < length c.take.new.buffer = omega (arith, c.take.auto.buffer, c.as_mut_slice.ensures.len, c.args.self.now.room) in
    (refl, λ known. c.in-Ok.ensures.end known c.if-count-eq0.true some)

pub returns-then-count-eq0-clause-end : goal.returns-then-count-eq0-clause-end
returns-then-count-eq0-clause-end g c = λ of_bytes known.
    let some : 0 < length c.take.new.buffer = omega (arith, c.take.auto.buffer, c.as_mut_slice.ensures.len, c.args.self.now.room) in
    let none : g.R.Source.remaining c.args.source.now ≡ g.R.Source.remaining c.take.new.self = rw c.if-count-eq0.true at (c.in-Ok.ensures.bytes known) in
    sym none ∙ c.in-Ok.ensures.end known c.if-count-eq0.true some

pub invariant_of-self : goal.invariant_of-self
invariant_of-self g c =
    let piece = c.args.self.now.piece in
    let long : length c.take.new.buffer ≡ piece.len = omega (arith, c.take.auto.buffer, c.as_mut_slice.ensures.len, piece.ok.0) in
    record {
      in_order = omega arith;
      within = omega arith;
      room = rw (with_items_is piece c.take.new.buffer long, long, piece.ok.0) c.args.self.now.room;
    }

pub invariant_of-self-then-count-eq0 : goal.invariant_of-self-then-count-eq0
invariant_of-self-then-count-eq0 g c =
    let piece = c.args.self.now.piece in
    let long : length c.take.new.buffer ≡ piece.len = omega (arith, c.take.auto.buffer, c.as_mut_slice.ensures.len, piece.ok.0) in
    record {
      in_order = omega arith;
      within = omega arith;
      room = rw (with_items_is piece c.take.new.buffer long, long, piece.ok.0) c.args.self.now.room;
    }

pub invariant_of-self-2 : goal.invariant_of-self-2
invariant_of-self-2 g c =
    let piece = c.args.self.now.piece in
    let long : length c.take.new.buffer ≡ piece.len = omega (arith, c.take.auto.buffer, c.as_mut_slice.ensures.len, piece.ok.0) in
    record {
      in_order = omega arith;
      within = rw (with_items_is piece c.take.new.buffer long) c.in-Ok.ensures.count;
      room = rw (with_items_is piece c.take.new.buffer long, long, piece.ok.0) c.args.self.now.room;
    }
