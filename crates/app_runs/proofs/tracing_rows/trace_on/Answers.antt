use Rattle.std.proofs.Common.{List, subst}
use Rattle.issuer_rows.specs.declared.reply_body.ReplyBody.{ReplyBody}
use Rattle.engine_locked.specs.Journals.{IsJournalOf}
use Rattle.stm_core_laws.specs.Play.{opening_play}
use Rattle.stm_journal_text.specs.Logged.{greatest}
use Rattle.app_runs.proofs.OnMoreRows.{if_both}
use Rattle.app_runs.proofs.tracing_rows.trace_on.Goals as goal

pub returns-then-has_few_rows-clause-journal : goal.returns-then-has_few_rows-clause-journal
returns-then-has_few_rows-clause-journal g c =
    if_both c.run_traced.result (λ run is journal.
    subst (λ (replies : List ReplyBody). IsJournalOf (opening_play c.args.book c.args.frames.now greatest) run.1.items run.0.committed replies) is.replies journal)
    c.run_traced.ensures.run c.run_traced.ensures.journal

pub returns-in-None-clause-journal : goal.returns-in-None-clause-journal
returns-in-None-clause-journal g c =
    if_both c.run_traced-in-None.result (λ run is journal.
    subst (λ (replies : List ReplyBody). IsJournalOf (opening_play c.args.book c.args.frames.now greatest) run.1.items run.0.committed replies) is.replies journal)
    c.run_traced-in-None.ensures.run c.run_traced-in-None.ensures.journal
