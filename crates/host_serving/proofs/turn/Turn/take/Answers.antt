use Rattle.std.proofs.Common.{◌≡◌, None, Some, refl, sym, ◌∙◌}
use Rattle.link_frames.specs.Incoming.{Network, Body}
use Rattle.host_serving.proofs.Turns.{on_all, request_taken, body_taken}
use Rattle.host_serving.proofs.turn.Turn.take.Goals as goal

not_read : {X : Type 0} {x : X} → None ≡ Some x → ⊥
not_read same = cc

pub returns-in-Some-clause-taken : goal.returns-in-Some-clause-taken
returns-in-Some-clause-taken c = λ incoming is.
    let made = c.add_request.ensures in
    let spelled = c.in-Some.ensures in
    on_all c.add_request.result made.bodies made.requests made.between (λ bodies requests between.
    (Network c.in-Some.message, spelled.found.0, spelled.found.1, request_taken incoming c.in-Some.message c.args.self.now c.add_request.new.self is bodies requests between))

pub returns-in-None-clause-taken : goal.returns-in-None-clause-taken
returns-in-None-clause-taken c = λ incoming is.
    let made = c.add_body.ensures in
    let none = c.in-None.is in
    on_all c.add_body.result made.bodies made.requests made.between (λ bodies requests between.
    (Body c.args.body.now, λ message spelled. not_read (sym none ∙ c.decode_network.ensures.only message spelled), refl, body_taken incoming c.args.body.now c.args.self.now c.add_body.new.self is bodies requests between))
