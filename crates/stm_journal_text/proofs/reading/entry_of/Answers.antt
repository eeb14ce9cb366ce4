use Rattle.std.proofs.Common.{ℕ, ◌<◌, sym, ap, subst, ◌∙◌, arith}
use Rattle.std.specs.Fmt.{decimal}
use Rattle.stm_journal_text.specs.Words.{Lacks, event_text}
use Rattle.stm_journal_text.proofs.Back.{number_back, number_back_is}
use Rattle.stm_journal_text.proofs.Lines.{entry_parts}
use Rattle.stm_journal_text.proofs.Marks.{not_lacking}
use Rattle.stm_journal_text.proofs.Anyway.{if_none}
use Rattle.stm_journal_text.proofs.reading.entry_of.Goals as goal

pub returns-in_err-seat-clause-none : goal.returns-in_err-seat-clause-none
returns-in_err-seat-clause-none c =
    if_none c.from_residual.result _ (λ e h same.
    not_lacking 32 (decimal e.seat) (event_text e.event) (subst (Lacks 32) same c.in_err-seat.ensures.none))

pub returns-in_err-number_of-clause-none : goal.returns-in_err-number_of-clause-none
returns-in_err-number_of-clause-none c =
    if_none c.from_residual-in_err-number_of.result _ (λ e h same.
    let found = c.in_ok-seat.ensures.found in
    let parts = entry_parts c.args.line.now c.in_ok-seat.seat.now c.in_ok-seat.event.now e found.0 found.1 h same in
    c.in_err-number_of.ensures.none e.seat (omega (arith, h.seat)) parts.0)

pub returns-in_err-new-clause-none : goal.returns-in_err-new-clause-none
returns-in_err-new-clause-none c =
    if_none c.from_residual-in_err-new.result _ (λ e h same.
    let found = c.in_ok-seat.ensures.found in
    let parts = entry_parts c.args.line.now c.in_ok-seat.seat.now c.in_ok-seat.event.now e found.0 found.1 h same in
    let number = c.in_ok-number_of.ensures.found in
    let is = sym (number_back_is c.in_ok-number_of.field-0 number.0) ∙ ap number_back (sym number.1 ∙ parts.0)
    ∙ number_back_is e.seat (omega (arith, h.seat)) in
    c.in_err-new.ensures (subst (λ (n : ℕ). n < 64) (sym is) h.seat))

pub returns-in_err-event_of-clause-none : goal.returns-in_err-event_of-clause-none
returns-in_err-event_of-clause-none c =
    if_none c.from_residual-in_err-event_of.result _ (λ e h same.
    let found = c.in_ok-seat.ensures.found in
    let parts = entry_parts c.args.line.now c.in_ok-seat.seat.now c.in_ok-seat.event.now e found.0 found.1 h same in
    c.in_err-event_of.ensures.none e.event h.event parts.1)
