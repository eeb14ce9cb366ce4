use Rattle.std.proofs.Common.{◌∙◌, ◌<◌, ◌-◌, ℕ, List, length, subst, sym, arith}
use Rattle.log_file.specs.Bodies.{bodies_in}
use Rattle.log_file.proofs.Framing.{goes, some_body}
use Rattle.log_file.proofs.body_iter.BodyIterIterator.next.Goals as goal

pub returns-in_err-body-clause-steps : goal.returns-in_err-body-clause-steps
returns-in_err-body-clause-steps c =
    absurd (some_body c.self.inside.left c.self.inside.text.now c.self.invariant (grind arith) c.in_err-body.ensures.none)

pub invariant_of-self : goal.invariant_of-self
invariant_of-self c =
    (goes c.self.inside.left c.self.inside.text.now c.in_ok-body.body.now c.in_ok-body.rest.now c.self.invariant (grind arith) c.in_ok-body.ensures.some.0 c.in_ok-body.ensures.some.1).framed_is

pub returns-clause-steps : goal.returns-clause-steps
returns-clause-steps c =
    sym c.self.view_is ∙ (goes c.self.inside.left c.self.inside.text.now c.in_ok-body.body.now c.in_ok-body.rest.now c.self.invariant (grind arith) c.in_ok-body.ensures.some.0 c.in_ok-body.ensures.some.1).given

pub returns-clause-goes : goal.returns-clause-goes
returns-clause-goes c =
    let given = sym c.self.view_is ∙ (goes c.self.inside.left c.self.inside.text.now c.in_ok-body.body.now c.in_ok-body.rest.now c.self.invariant (grind arith) c.in_ok-body.ensures.some.0 c.in_ok-body.ensures.some.1).given in
    record {
      on = λ _. (tt, tt, subst (λ (l : List (List ℕ)). length (bodies_in (c.self.inside.left - 1) c.in_ok-body.rest.now) < length l) (sym given) (omega arith));
      keeps = tt;
      rests = λ _. tt;
    }
