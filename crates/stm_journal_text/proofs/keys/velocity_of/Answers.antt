use Rattle.stm_journal_text.proofs.KeyTexts.{day_marked, day_parts}
use Rattle.stm_journal_text.proofs.Anyway.{if_none}
use Rattle.stm_journal_text.proofs.keys.velocity_of.Goals as goal

pub returns-in_err-pan-clause-none : goal.returns-in_err-pan-clause-none
returns-in_err-pan-clause-none c =
    if_none c.from_residual.result _ (λ row h same. day_marked c.args.text.now row c.in_err-pan.ensures.none h same)

pub returns-in_err-new-clause-none : goal.returns-in_err-new-clause-none
returns-in_err-new-clause-none c =
    if_none c.from_residual-in_err-new.result _ (λ row h same.
    let found = c.in_ok-pan.ensures.found in
    let parts = day_parts c.args.text.now c.in_ok-pan.pan.now c.in_ok-pan.day.now row found.0 found.1 h same in
    c.in_err-new.ensures parts.0)

pub returns-in_err-new-2-clause-none : goal.returns-in_err-new-2-clause-none
returns-in_err-new-2-clause-none c =
    if_none c.from_residual-in_err-new-2.result _ (λ row h same.
    let found = c.in_ok-pan.ensures.found in
    let parts = day_parts c.args.text.now c.in_ok-pan.pan.now c.in_ok-pan.day.now row found.0 found.1 h same in
    c.in_err-new-2.ensures parts.1)
