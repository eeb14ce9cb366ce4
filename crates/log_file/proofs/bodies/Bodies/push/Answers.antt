use Rattle.std.proofs.Common.{◌<◌, ◌∙◌, ◌++◌, ◌∷◌, [], List, ℕ, ap, length, arith}
use Rattle.log_file.proofs.Framing.{pushed}
use Rattle.log_file.proofs.bodies.Bodies.push.Goals as goal

pub invariant_of-self : goal.invariant_of-self
invariant_of-self c =
    let few : c.self.inside.count < 65536 = omega (arith, c.self.invariant.number, ap length c.self.view_is, c.requires.room) in
    (pushed c.self.inside.count c.self.inside.text.items c.add_framed.new.text.items c.args.body.now c.self.invariant c.requires.body few c.in-Ok.ensures.ok).framed_is

pub returns-in-Ok-clause-ok : goal.returns-in-Ok-clause-ok
returns-in-Ok-clause-ok c =
    let few : c.self.inside.count < 65536 = omega (arith, c.self.invariant.number, ap length c.self.view_is, c.requires.room) in
    (pushed c.self.inside.count c.self.inside.text.items c.add_framed.new.text.items c.args.body.now c.self.invariant c.requires.body few c.in-Ok.ensures.ok).seen
    ∙ ap (λ (xs : List (List ℕ)). xs ++ c.args.body.now ∷ []) c.self.view_is
