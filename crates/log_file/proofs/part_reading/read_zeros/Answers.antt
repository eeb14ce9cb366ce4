use Rattle.std.proofs.Common.{rules, ◌≡◌, ◌∙◌, ◌+◌, ◌++◌, [], drop, length, refl, sym, ap, subst, arith}
use Rattle.std.specs.List.{All}
use Rattle.log_file.specs.Ahead.{ahead, held}
use Rattle.log_file.proofs.Ahead.{more_read, nothing_ahead, ok_of, skipped, zeros_broken, zeros_end}
use Rattle.log_file.proofs.Framing.{clash}
use Rattle.log_file.proofs.part_reading.read_zeros.Goals as goal

pub returns-then-not-are_zeros-clause-part : goal.returns-then-not-are_zeros-clause-part
returns-then-not-are_zeros-clause-part g c = λ before known.
    let rem = g.R.Source.remaining in
    let old = c.args.input.now in
    let now = c.loop.input in
    zeros_broken before c.loop.count (ahead rem old) (held old) (rem old.source) (held now) (rem now.source) refl c.requires.long c.requires.head (c.loop.invariant.zeros known)
    (λ all. clash c.are_zeros.result (c.are_zeros.ensures.1 (subst (All (λ byte. byte ≡ 0)) (sym c.held-held.ensures) all)) c.if-not-are_zeros.true)

pub returns-then-not-branch-clause-part : goal.returns-then-not-branch-clause-part
returns-then-not-branch-clause-part g c = λ before known.
    let rem = g.R.Source.remaining in
    let old = c.args.input.now in
    let now = c.loop.input in
    let behind = c.skip.new.self in
    let last = c.fill.new.self in
    let known' = c.loop.invariant.device.known known in
    let all : All (λ byte. byte ≡ 0) (held now) = subst (All (λ byte. byte ≡ 0)) c.held-held.ensures (c.are_zeros.ensures.0 c.if-not-are_zeros.false) in
    let left : ahead rem behind ≡ drop (length c.held-held.result.now) (held now) ++ rem now.source = rw (c.skip.ensures.held, c.skip.ensures.source) refl in
    let next : ahead rem behind ≡ rem now.source = skipped (length c.held-held.result.now) (held now) (rem now.source) (ahead rem behind) (ap length c.held-held.ensures) left in
    let number : c.in-Some.more ≡ c.loop.count + length (held now) = omega (arith, c.in-Some.ensures, ap length c.held-held.ensures) in
    let known2 : g.R.Source.is_known behind.source = rw c.skip.ensures.source known' in
    let less = ok_of _ _ c.if-not-branch.true in
    let none : ahead rem behind ≡ [] = nothing_ahead (held last) (rem last.source) (ahead rem behind) (c.in_ok-fill.ensures.bytes known2) (c.in_ok-fill.ensures.end less known2) (c.in_ok-fill.ensures.less less) in
    let step = more_read c.loop.count (ahead rem old) (held now) (rem now.source) (ahead rem behind) (c.loop.invariant.zeros known) all next in
    let torn = zeros_end before (c.loop.count + length (held now)) (ahead rem old) (ahead rem behind) step none in
    (torn.0, number ∙ torn.1)

pub loop-preserved : goal.loop-preserved
loop-preserved g c = record {
  device = search rules;
  zeros = λ known.
      let rem = g.R.Source.remaining in
      let now = c.loop.input in
      let behind = c.skip.new.self in
      let last = c.fill.new.self in
      let all : All (λ byte. byte ≡ 0) (held now) = subst (All (λ byte. byte ≡ 0)) c.held-held.ensures (c.are_zeros.ensures.0 c.if-not-are_zeros.false) in
      let left : ahead rem behind ≡ drop (length c.held-held.result.now) (held now) ++ rem now.source = rw (c.skip.ensures.held, c.skip.ensures.source) refl in
      let next : ahead rem behind ≡ rem now.source = skipped (length c.held-held.result.now) (held now) (rem now.source) (ahead rem behind) (ap length c.held-held.ensures) left in
      let number : c.in-Some.more ≡ c.loop.count + length (held now) = omega (arith, c.in-Some.ensures, ap length c.held-held.ensures) in
      let known2 : g.R.Source.is_known behind.source = rw c.skip.ensures.source (c.loop.invariant.device.known known) in
      rw number (more_read c.loop.count _ (held now) (rem now.source) (ahead rem last) (c.loop.invariant.zeros known) all (c.in_ok-fill.ensures.bytes known2 ∙ next));
}
