use Rattle.std.proofs.Common.{◌≡◌, [], refl, arith}
use Rattle.log_file.proofs.Framing.{texts}
use Rattle.log_file.proofs.bodies.Bodies.new.Goals as goal

pub invariant_of-result : goal.invariant_of-result
invariant_of-result c =
    let none : c.new.result.items ≡ [] = grind arith in
    (texts [] 0 c.new.result.items (omega arith, tt) refl none).framed_is

pub returns : goal.returns
returns c =
    let none : c.new.result.items ≡ [] = grind arith in
    (texts [] 0 c.new.result.items (omega arith, tt) refl none).seen
