use Rattle.std.proofs.Common.{◌≡◌, ◌∙◌, ◌++◌, List, ℕ, refl, ap}
use Rattle.log_file.proofs.Framing.{clash, no_payload, not_theirs, payload_of}
use Rattle.log_file.proofs.bodies.Bodies.of_payload.Goals as goal

pub returns-in_default-clause-none : goal.returns-in_default-clause-none
returns-in_default-clause-none c = no_payload c.args.payload.now c.in_default.ensures.none

pub returns-then-not-is_framed-clause-none : goal.returns-then-not-is_framed-clause-none
returns-then-not-is_framed-clause-none c = λ bodies are e.
    let parts = not_theirs c.in-Some.count c.in-Some.text.now c.args.payload.now bodies c.in-Some.ensures.some.1 c.in-Some.ensures.some.0 are e in
    clash c.is_framed.result (c.is_framed.ensures.none bodies are parts.0 parts.1) c.if-not-is_framed.true

pub returns-clause-some : goal.returns-clause-some
returns-clause-some c =
    let same : c.extend_from_slice.new.self.items ≡ c.in-Some.text.now = c.in_ok-extend_from_slice.ensures.items ∙ ap (λ (x : List ℕ). x ++ c.in-Some.text.now) c.new-copy.ensures.items in
    payload_of c.in-Some.count c.in-Some.text.now c.extend_from_slice.new.self.items c.args.payload.now same (c.if-not-is_framed.ensures.framed refl) c.in-Some.ensures.some.0
