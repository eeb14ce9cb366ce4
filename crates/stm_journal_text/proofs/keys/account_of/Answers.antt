use Rattle.std.proofs.Common.{arith}
use Rattle.stm_journal_text.proofs.KeyTexts.{name_length}
use Rattle.stm_journal_text.proofs.keys.account_of.Goals as goal

pub returns-then-len-gt28-clause-none : goal.returns-then-len-gt28-clause-none
returns-then-len-gt28-clause-none c = λ id h same.
    let size = name_length c.args.text.now id.0 h same in
    omega (arith, h.1)
