use Rattle.std.proofs.Common.{◌≡◌, ◌∙◌, ℕ, List, length, sym, ap, subst, arith}
use Rattle.std.specs.Bool.{◌==◌}
use Rattle.log_file.proofs.Framing.{Split, no_next, nothing_left, split_all, split_more}
use Rattle.log_file.proofs.splitting.is_framed.Goals as goal
use Rattle.file_devices.proofs.Puts.{nothing}

pub returns-in_default-clause-none : goal.returns-in_default-clause-none
returns-in_default-clause-none c = λ bodies are number is.
    absurd (no_next c.loop.counter c.args.count c.args.text.now c.loop.rest.now bodies c.loop-test.true c.loop.invariant c.in_default.ensures.none are number is)

pub loop-preserved : goal.loop-preserved
loop-preserved c =
    split_more c.loop.counter c.args.text.now c.loop.rest.now c.in-Some.field-0-0.now c.in-Some.behind.now c.loop.invariant c.in-Some.ensures.some.0 c.in-Some.ensures.some.1

pub returns-clause-framed : goal.returns-clause-framed
returns-clause-framed c = λ yes.
    let same : c.loop.counter ≡ c.args.count = omega arith in
    split_all c.args.count c.args.text.now c.loop.rest.now c.requires (subst (λ (n : ℕ). Split n c.args.text.now c.loop.rest.now) same c.loop.invariant)
    (nothing c.loop.rest.now (sym yes ∙ c.is_empty.ensures))

pub returns-clause-none : goal.returns-clause-none
returns-clause-none c = λ bodies are number is.
    let same : c.loop.counter ≡ c.args.count = omega arith in
    let none = nothing_left c.args.count c.args.text.now c.loop.rest.now bodies (subst (λ (n : ℕ). Split n c.args.text.now c.loop.rest.now) same c.loop.invariant) are number is in
    c.is_empty.ensures ∙ ap (λ (xs : List ℕ). length xs == 0) none
