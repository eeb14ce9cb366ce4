use Rattle.std.proofs.Common.{refl, arith}
use Rattle.log_file.proofs.Logging.{front_is, never_true, not_long, unbegun_zeros, zeros_unbegun}
use Rattle.log_file.proofs.unbegun.is_less.Goals as goal

pub returns-then-begins_header : goal.returns-then-begins_header
returns-then-begins_header c = λ book is. ((λ _. front_is book c.args.bytes.now c.args.header.now is (c.begins_header.ensures.0 c.if-begins_header.true)), λ _. refl)

pub returns-then-bytes-gt38 : goal.returns-then-bytes-gt38
returns-then-bytes-gt38 c = λ book is. (
  (λ t. absurd (never_true t)),
  λ u. absurd (not_long book c.args.bytes.now c.args.header.now c.begins_header.result is c.begins_header.ensures.1 c.if-begins_header.false (omega arith) u),
)

pub returns : goal.returns
returns c = λ book is. (
  (λ t. zeros_unbegun book c.args.bytes.now (omega arith) (c.are_zeros.ensures.0 t)),
  λ u. c.are_zeros.ensures.1 (unbegun_zeros book c.args.bytes.now c.args.header.now c.begins_header.result is c.begins_header.ensures.1 c.if-begins_header.false u),
)
