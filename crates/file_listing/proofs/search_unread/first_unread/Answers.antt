use Rattle.std.proofs.Common.{◌≡◌, ◌+◌, drop, length, Ok, arith}
use Rattle.file_laws.specs.Reading.{body_at}
use Rattle.file_listing.proofs.OneMore.{no_messages, one_more_message}
use Rattle.file_listing.proofs.search_unread.first_unread.Goals as goal

pub loop-number-init : goal.loop-number-init
loop-number-init c = no_messages c.args.file.now c.in-Ok.ensures.ok.0

pub returns-in-Err : goal.returns-in-Err
returns-in-Err c = record {
  count = c.in-Ok.count;
  head = c.in-Ok.ensures.ok;
  within = omega (arith, c.loop-number-test.true);
  before = c.loop-number.invariant.0;
  are = c.loop-number.invariant.1;
  framed = c.in-Ok-body_at_byte.ensures.ok;
  fault = c.in-Err.ensures.fault;
}

pub loop-number-preserved : goal.loop-number-preserved
loop-number-preserved c =
    let file = c.args.file.now in
    let at = c.loop-number.at in
    let body = c.in-Ok-body_at_byte.body.now in
    let framed = c.in-Ok-body_at_byte.ensures.ok in
    let same : at + (2 + length body) ≡ at + 2 + length body = omega arith in
    let next : body_at (drop at file) ≡ Ok (body, drop (at + (2 + length body)) file) = rw same framed.1 in
    one_more_message file c.loop-number.number (c.loop-number.number + 1) at (at + (2 + length body)) body c.loop-number.invariant (omega (arith, framed.0)) next
    c.in-Ok-check_message.ensures.message (omega arith)
