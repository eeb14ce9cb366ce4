use Rattle.std.proofs.Common.{◌≡◌, ◌-◌, [], ◌∷◌, ◌++◌, arith, subst, sym}
use Rattle.file_listing.proofs.Steps.{Cut, cut_ends, cut_fails, cut_more}
use Rattle.file_listing.proofs.cutting.cut_bodies.Goals as goal

pub returns-in-Err-clause-fault : goal.returns-in-Err-clause-fault
returns-in-Err-clause-fault c = λ _.
    let left = c.loop-left.left in
    cut_fails c.args.count c.args.bytes.now left (left - 1) c.loop-left.rest.now c.loop-left.bodies.items c.in-Err.fault (omega (arith, c.loop-left-test.true))
    c.in-Err.ensures.err c.loop-left.invariant

pub loop-left-preserved : goal.loop-left-preserved
loop-left-preserved c =
    let left = c.loop-left.left in
    let added : c.push.new.self.items ≡ c.loop-left.bodies.items ++ c.in_ok-copy.copy ∷ [] = c.in_ok-push.ensures.items in
    subst (Cut c.args.count c.args.bytes.now (left - 1) c.in-Ok.parts.1.now) (sym added)
    (cut_more c.args.count c.args.bytes.now left (left - 1) c.loop-left.rest.now c.in-Ok.parts.0.now c.in-Ok.parts.1.now c.loop-left.bodies.items
    c.in_ok-copy.copy (omega (arith, c.loop-left-test.true)) c.in-Ok.ensures.ok c.in_ok-copy.ensures c.loop-left.invariant)

pub returns-clause-bodies : goal.returns-clause-bodies
returns-clause-bodies c =
    cut_ends c.args.count c.args.bytes.now c.loop-left.left c.loop-left.rest.now c.loop-left.bodies.items (omega (arith, c.loop-left-test.false)) c.loop-left.invariant
