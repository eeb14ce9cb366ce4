use Rattle.stm_journal_text.proofs.Lines.{line_parts}
use Rattle.stm_journal_text.proofs.Anyway.{if_none}
use Rattle.stm_journal_text.proofs.reading.first_entry.Goals as goal

pub returns-in_err-entry_of-clause-none : goal.returns-in_err-entry_of-clause-none
returns-in_err-entry_of-clause-none c =
    if_none c.from_residual-in_err-entry_of.result _ (λ e more h same.
    let found = c.in_ok-line.ensures.found in
    c.in_err-entry_of.ensures.none e h (line_parts c.args.text.now c.in_ok-line.line.now c.in_ok-line.rest.now more e found.0 found.1 h same))
