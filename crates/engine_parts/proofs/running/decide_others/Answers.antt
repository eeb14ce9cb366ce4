use Rattle.std.proofs.Common.{◌≡◌, ℕ, ◌<◌, true, List, length, slice_index_or, subst, arith}
use Rattle.std.specs.List.{AllByRecursion}
use Rattle.engine_parts.proofs.WholeLaws.{all_decided}
use Rattle.engine_parts.specs.Decided.{AreDecided, bodies_of}
use Rattle.engine_parts.specs.declared.decided_part.DecidedPart.{DecidedPart}
use Rattle.engine_parts.proofs.running.decide_others.Goals as goal

pub returns-clause-decided : goal.returns-clause-decided
returns-clause-decided g c =
    let opening = c.args.opening.now in
    let parts = c.args.parts.now in
    let frames = c.args.frames.now in
    let found = c.in_ok-decided in
    let ones = found.decided.items in
    let each : (p : ℕ) (d : DecidedPart) → p < length ones → (slice_index_or ones p d).is_whole ≡ true → AreDecided opening (bodies_of p parts frames) (slice_index_or ones p d)
    = λ p d within whole. (let below : p < c.args.count = omega (arith, found.ensures.len) in (found.ensures.each p d below).1.met whole) in
    let all = subst (λ (ps : List DecidedPart). AllByRecursion (λ (one : DecidedPart). one.is_whole ≡ true) ps) c.deref.ensures.value (c.are_whole.ensures c.if-not-are_whole.false) in
    all_decided opening parts frames ones all each
