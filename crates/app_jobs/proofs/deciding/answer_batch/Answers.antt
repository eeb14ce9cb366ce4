use Rattle.std.proofs.Common.{◌≡◌, ◌∙◌, Err, ap, inl, inr, length}
use Rattle.book_laws.specs.Text.{book_text}
use Rattle.file_batch.specs.Words.{WriteFault, names_of, replies_text}
use Rattle.issuer_fold.proofs.FoldLaws.{length-replies_to}
use Rattle.std.proofs.lemmas.Result.{err_from_is_err_and}
use Rattle.app_jobs.proofs.AnsweredFiles.{answer_unmade, answer_unwritten}
use Rattle.app_jobs.proofs.Held.{all_written}
use Rattle.app_jobs.proofs.deciding.answer_batch.Goals as goal

pub write_outcome-requires-clause-few : goal.write_outcome-requires-clause-few
write_outcome-requires-clause-few g c =
    let folded = c.requires.decider.fold c.args.book c.args.frames _ c.in_ok-outcome.ensures in
    let same : length c.in_ok-outcome.outcome.replies.items ≡ length c.args.frames.now = ap length folded.0 ∙ length-replies_to c.args.book c.args.frames.now in
    λ κs lives. rw same c.requires.few

pub returns-in_err-new_book-clause-fault : goal.returns-in_err-new_book-clause-fault
returns-in_err-new_book-clause-fault g c =
    let p = err_from_is_err_and c.from_residual-in_err-new_book.result c.from_residual-in_err-new_book.ensures.1 in
    rw (p.1, p.2) (answer_unmade (g.F.Files.holds c.args.files.now) (g.F.Files.failing c.args.files.now) (names_of c.args.names.now) c.args.frames.now _ c.in_err-new_book.field-0.0
    c.requires.held.messages (λ is. inr (rw c.as_str-2.ensures.value at (c.in_err-new_book.ensures.refused (ap (λ (e : WriteFault). Err e) is)))))

pub returns-in_err-write_outcome-clause-fault : goal.returns-in_err-write_outcome-clause-fault
returns-in_err-write_outcome-clause-fault g c =
    let p = err_from_is_err_and c.from_residual-in_err-write_outcome.result c.from_residual-in_err-write_outcome.ensures.1 in
    let writing = rw c.as_str.ensures.value at c.in_ok-replies.ensures.device in
    let booking = rw c.as_str-2.ensures.value at c.in_ok-new_book.ensures.device in
    rw (p.1, p.2) (answer_unwritten (g.F.Files.holds c.args.files.now) (g.F.Files.failing c.args.files.now) (names_of c.args.names.now) c.args.frames.now _ _ _ _
    c.requires.held.messages writing (λ f. inl (booking f)) c.in_err-write_outcome.ensures.fault)

pub returns-clause-answered : goal.returns-clause-answered
returns-clause-answered g c =
    let folded = c.requires.decider.fold c.args.book c.args.frames _ c.in_ok-outcome.ensures in
    let wrote = c.in_ok-write_outcome.ensures in
    record {
      frames = c.args.frames.now;
      counted = c.of.ensures;
      batch_there = c.requires.held.batch_there;
      messages = c.requires.held.messages;
      replied = λ k.
          let empty = c.in_ok-replies.ensures.empty k in
          let text = wrote.replies empty.0 in
          (text.0, all_written _ _ _ text.1 empty.1 ∙ ap replies_text folded.0);
      back = rw folded.1 at wrote.back;
      bodies = rw folded.0 at wrote.bodies;
      booked = λ k.
          let empty = c.in_ok-new_book.ensures.empty k in
          let text = wrote.book empty.0 in
          (text.0, all_written _ _ _ text.1 empty.1 ∙ ap book_text folded.1);
    }
