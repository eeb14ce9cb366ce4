use Rattle.std.proofs.Common.{rules, ◌≡◌, ◌∙◌, ap, List, subst}
use Rattle.issuer_words.specs.Words.{ReplyBody, Rows, replies_to}
use Rattle.engine_locked.specs.Journals.{IsJournalOf}
use Rattle.stm_core_laws.specs.Play.{opening_play}
use Rattle.stm_journal_text.specs.Logged.{greatest}
use Rattle.parts_books.proofs.Enough.{are_enough}
use Rattle.app_runs.proofs.OnMoreRows.{journal_over}
use Rattle.app_runs.proofs.tracing_rows.trace_needed.Goals as goal

pub returns-clause-journal : goal.returns-clause-journal
returns-clause-journal g c =
    let book = c.args.book.now in
    let frames = c.args.frames.now in
    let needed = c.in_ok-needed.needed in
    let run = c.in_ok-outcome in
    let same : run.outcome.replies.items ≡ replies_to book frames =
    run.ensures.run.replies ∙ ap (λ (rows : Rows). replies_to rows frames) c.in_ok-needed.ensures ∙ (are_enough book frames).replies in
    subst (λ (replies : List ReplyBody). IsJournalOf (opening_play book frames greatest) run.entries.items run.outcome.committed replies) same
    (journal_over needed book frames greatest run.entries.items run.outcome.committed run.outcome.replies.items (rw c.deref.ensures.value at (c.are_read_alike.ensures (search rules))) run.ensures.journal)
