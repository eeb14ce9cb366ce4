use Rattle.std.proofs.Common.{◌≡◌, ℕ, Result, Err, map, ap, ◌∙◌, length, ◌+◌}
use Rattle.file_listing.specs.declared.listing_fault.ListingFault.{ListingFault}
use Rattle.file_listing.specs.declared.listing_fault.ListingFault.TheVariants.{Line}
use Rattle.file_listing.proofs.LineSteps.{goes_on, wrong_line, ends, ends_wrong, shorter}
use Rattle.file_listing.proofs.bodies.all_bodies.Goals as goal

same_line : {X : Type 0} (a b : ℕ) → Path (Result X ListingFault) (Err (Line a)) (Err (Line b)) → a ≡ b
same_line a b e = cc

pub returns-then-not-branch-clause-line : goal.returns-then-not-branch-clause-line
returns-then-not-branch-clause-line c n e =
    wrong_line c.args.text.now c.loop-line.rest.now c.in-Some.line.now c.in-Some.more.now (map (λ body. body.items) c.loop-line.bodies.items) c.loop-line.number
    c.loop-line.invariant.read c.in-Some.ensures.found.0 c.in-Some.ensures.found.1 (c.in_ok-has_body.ensures.wrong c.if-not-branch.true)
    ∙ ap (λ (m : ℕ). Err m) (same_line _ _ e)

pub loop-line-preserved : goal.loop-line-preserved
loop-line-preserved c = record {
  read = goes_on c.args.text.now c.loop-line.rest.now c.in-Some.line.now c.in-Some.more.now (map (λ body. body.items) c.loop-line.bodies.items) (map (λ body. body.items) c.has_body.new.bodies.items) c.loop-line.number
      c.loop-line.invariant.read c.in-Some.ensures.found.0 c.in-Some.ensures.found.1 (c.in_ok-has_body.ensures.added c.if-not-branch.false);
  few = shorter c.loop-line.rest.now c.in-Some.line.now c.in-Some.more.now c.loop-line.number (length c.args.text.now + 1) c.loop-line.invariant.few c.in-Some.ensures.found.0;
}

pub returns-then-not-branch-2-clause-line : goal.returns-then-not-branch-2-clause-line
returns-then-not-branch-2-clause-line c n e =
    ends_wrong c.args.text.now c.loop-line.rest.now (map (λ body. body.items) c.loop-line.bodies.items) c.loop-line.number
    c.loop-line.invariant.read c.in_default.ensures.none (c.in_ok-has_body-2.ensures.wrong c.if-not-branch-2.true)
    ∙ ap (λ (m : ℕ). Err m) (same_line _ _ e)

pub returns-clause-ok : goal.returns-clause-ok
returns-clause-ok c =
    ends c.args.text.now c.loop-line.rest.now (map (λ body. body.items) c.loop-line.bodies.items) (map (λ body. body.items) c.has_body-2.new.bodies.items) c.loop-line.number
    c.loop-line.invariant.read c.in_default.ensures.none (c.in_ok-has_body-2.ensures.added c.if-not-branch-2.false)
