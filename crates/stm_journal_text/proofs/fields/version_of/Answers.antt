use Rattle.stm_journal_text.proofs.Anyway.{if_none}
use Rattle.stm_journal_text.proofs.Numbers.{version_marked, version_parts}
use Rattle.stm_journal_text.proofs.fields.version_of.Goals as goal

pub returns-in_err-index-clause-none : goal.returns-in_err-index-clause-none
returns-in_err-index-clause-none c =
    if_none c.from_residual.result _ (λ v h same. version_marked c.args.text.now v c.in_err-index.ensures.none same)

pub returns-in_err-number_of-clause-none : goal.returns-in_err-number_of-clause-none
returns-in_err-number_of-clause-none c =
    if_none c.from_residual-in_err-number_of.result _ (λ v h same.
    let found = c.in_ok-index.ensures.found in
    let parts = version_parts c.args.text.now c.in_ok-index.index.now c.in_ok-index.incarnation.now v found.0 found.1 h same in
    c.in_err-number_of.ensures.none v.index h.index parts.0)

pub returns-in_err-number_of-2-clause-none : goal.returns-in_err-number_of-2-clause-none
returns-in_err-number_of-2-clause-none c =
    if_none c.from_residual-in_err-number_of-2.result _ (λ v h same.
    let found = c.in_ok-index.ensures.found in
    let parts = version_parts c.args.text.now c.in_ok-index.index.now c.in_ok-index.incarnation.now v found.0 found.1 h same in
    c.in_err-number_of-2.ensures.none v.incarnation h.incarnation parts.1)
