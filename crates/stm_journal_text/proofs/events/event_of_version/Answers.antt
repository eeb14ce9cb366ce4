use Rattle.std.proofs.Common.{◌≢◌, rules}
use Rattle.std.specs.Prelude.{codes}
use Rattle.stm_journal_text.proofs.EventTexts.{of_no_letter}
use Rattle.stm_journal_text.proofs.events.event_of_version.Goals as goal

pub returns-in_default-clause-none : goal.returns-in_default-clause-none
returns-in_default-clause-none c = λ e h.
    let r : c.args.letter.now ≢ codes "r" = search rules in
    let b : c.args.letter.now ≢ codes "b" = search rules in
    let f : c.args.letter.now ≢ codes "f" = search rules in
    let k : c.args.letter.now ≢ codes "c" = search rules in
    of_no_letter c.args.letter.now c.args.rest.now e c.requires r b f k
