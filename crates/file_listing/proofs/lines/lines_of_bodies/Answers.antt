use Rattle.std.proofs.Common.{◌-◌, arith}
use Rattle.file_listing.proofs.Steps.{ends, fails, goes_on}
use Rattle.file_listing.proofs.lines.lines_of_bodies.Goals as goal

pub returns-in-Err-clause-fault : goal.returns-in-Err-clause-fault
returns-in-Err-clause-fault c = λ _.
    let left = c.loop-left.left in
    fails c.args.count c.args.bytes.now left (left - 1) c.loop-left.rest.now c.loop-left.text.items c.in-Err.fault (omega (arith, c.loop-left-test.true))
    c.in-Err.ensures.err c.loop-left.invariant

pub loop-left-preserved : goal.loop-left-preserved
loop-left-preserved c =
    let left = c.loop-left.left in
    goes_on c.args.count c.args.bytes.now left (left - 1) c.loop-left.rest.now c.in-Ok.parts.0.now c.in-Ok.parts.1.now c.loop-left.text.items
    c.add_line.new.text.items (omega (arith, c.loop-left-test.true)) c.in-Ok.ensures.ok c.in_ok-add_line.ensures c.loop-left.invariant

pub returns-clause-lines : goal.returns-clause-lines
returns-clause-lines c =
    ends c.args.count c.args.bytes.now c.loop-left.left c.loop-left.rest.now c.loop-left.text.items (omega (arith, c.loop-left-test.false)) c.loop-left.invariant
