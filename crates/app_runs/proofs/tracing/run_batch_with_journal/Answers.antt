use Rattle.std.proofs.Common.{inl, inr}
use Rattle.std.proofs.lemmas.Result.{err_from_is_err_and}
use Rattle.app_jobs.proofs.AnsweredFiles.{is_strict}
use Rattle.app_jobs.proofs.Faults.{answering_more, putting_more}
use Rattle.app_runs.specs.Journaled.{MayBeRefusedWithJournal, MayNotBeAnsweredWithJournal}
use Rattle.file_devices.specs.BatchNames.{names_of}
use Rattle.app_runs.proofs.tracing.run_batch_with_journal.Goals as goal

pub returns-in_err-book-clause-fault : goal.returns-in_err-book-clause-fault
returns-in_err-book-clause-fault g c =
    let p = err_from_is_err_and c.from_residual.result c.from_residual.ensures.1 in
    rw (p.1, p.2) (elim c.in_err-book.ensures.fault [ inl h ↦ inl h | inr behind ↦ inr (behind.0, inl (inl (inl behind.1))) ])

pub returns-in_err-answer-clause-fault : goal.returns-in_err-answer-clause-fault
returns-in_err-answer-clause-fault g c =
    let p = err_from_is_err_and c.from_residual-in_err-answer.result c.from_residual-in_err-answer.ensures.1 in
    let book = c.in_ok-book.ensures.held.opening in
    rw (p.1, p.2) (inr ((c.in_ok-book.book, book), inl (answering_more (g.F.Files.holds c.args.files.now) (g.F.Files.failing c.args.files.now) (names_of c.args.names.now) _ _ _ (λ f. elim f [ inl book_lost ↦ inl (inl book_lost) | inr journal_lost ↦ inr journal_lost ]) c.in_err-answer.ensures.fault)))

pub returns-in_err-admit-clause-fault : goal.returns-in_err-admit-clause-fault
returns-in_err-admit-clause-fault g c =
    let p = err_from_is_err_and c.from_residual-in_err-admit.result c.from_residual-in_err-admit.ensures.1 in
    let book = c.in_ok-book.ensures.held.opening in
    let answered = c.in_ok-answer.ensures.answered in
    rw (p.1, p.2) (inr ((c.in_ok-book.book, book), inr (is_strict _ _ _ answered.frames _ _ c.in_err-admit.ensures.refused answered.counted answered.messages)))

pub returns-in_err-put_run-clause-fault : goal.returns-in_err-put_run-clause-fault
returns-in_err-put_run-clause-fault g c =
    let p = err_from_is_err_and c.from_residual-in_err-put_run.result c.from_residual-in_err-put_run.ensures.1 in
    let book = c.in_ok-book.ensures.held.opening in
    let answered = c.in_ok-answer.ensures.answered in
    rw (p.1, p.2) (inr (
      (c.in_ok-book.book, book),
      inl (inr (
        (answered.frames, answered.messages),
        putting_more (MayBeRefusedWithJournal (g.F.Files.failing c.args.files.now) (names_of c.args.names.now) c.args.journal.now)
            (MayNotBeAnsweredWithJournal (g.F.Files.failing c.args.files.now) (names_of c.args.names.now) c.args.journal.now) _ (λ f. elim f [ inl answer ↦ inl (inr answer) | inr log ↦ inr (inr log) ]) c.in_err-put_run.ensures.puts.fault,
      )),
    ))

pub returns-in_err-put_run-clause-kept : goal.returns-in_err-put_run-clause-kept
returns-in_err-put_run-clause-kept g c =
    let p = err_from_is_err_and c.from_residual-in_err-put_run.result c.from_residual-in_err-put_run.ensures.1 in
    rw p.1 c.in_err-put_run.ensures.puts.kept

pub returns-clause-decided : goal.returns-clause-decided
returns-clause-decided g c =
    let book = c.in_ok-book.ensures.held.opening in
    let there = c.in_ok-book.ensures.held.book_there in
    let answered = c.in_ok-answer.ensures.answered in
    let put = c.in_ok-put_run.ensures.puts in
    record {
      rows = c.in_ok-book.book;
      frames = answered.frames;
      entries = answered.entries;
      committed = answered.committed;
      counted = answered.counted;
      book_there = there;
      batch_there = answered.batch_there;
      opening = book;
      messages = answered.messages;
      are = answered.are;
      ran = answered.ran;
      back = answered.back;
      bodies = answered.bodies;
      after = λ k.
          let text = answered.booked k in
          rw (← text.1) (put.book k text.0);
      logged = λ k apart.
          let text = answered.logged k in
          rw (← text.1) (put.log k text.0 apart);
      answered = λ k apart further.
          let text = answered.replied k in
          rw (← text.1) (put.replies k text.0 apart further);
    }
