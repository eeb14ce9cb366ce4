use Rattle.std.proofs.Common.{[], refl, arith}
use Rattle.log_file.proofs.Framing.{texts}
use Rattle.log_file.proofs.bodies.Bodies.clear.Goals as goal

pub invariant_of-self : goal.invariant_of-self
invariant_of-self c = (texts [] 0 c.clear.new.self.items (omega arith, tt) refl c.clear.ensures.items).framed_is

pub returns : goal.returns
returns c = (texts [] 0 c.clear.new.self.items (omega arith, tt) refl c.clear.ensures.items).seen
