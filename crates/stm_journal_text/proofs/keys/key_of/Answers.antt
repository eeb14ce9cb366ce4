use Rattle.std.proofs.Common.{rules}
use Rattle.stm_journal_text.proofs.KeyTexts.{of_no_kind}
use Rattle.stm_journal_text.proofs.keys.key_of.Goals as goal

pub returns-else-eq-5-clause-none : goal.returns-else-eq-5-clause-none
returns-else-eq-5-clause-none c = λ row h.
    let found = c.in_ok-kind.ensures.found in
    of_no_kind c.args.text.now c.in_ok-kind.kind.now c.in_ok-kind.rest.now row found.0 found.1
    (search rules) (search rules) (search rules) (search rules) (search rules)
