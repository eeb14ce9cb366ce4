use Rattle.std.proofs.Common.{◌∙◌, ap}
use Rattle.book_laws.specs.Text.{book_text}
use Rattle.app_jobs.proofs.Held.{all_written}
use Rattle.app_jobs.proofs.serial.answer_in_order.Goals as goal

pub returns-clause-answered : goal.returns-clause-answered
returns-clause-answered g c =
    let decided = c.in-Ok.ensures.decides in
    record {
      frames = decided.0;
      counted = decided.1.0.1;
      batch_there = λ k. rw c.as_str.ensures.value at c.in_ok-batch.ensures.there k;
      messages = λ bytes h.
          let opened = c.in_ok-batch.ensures.bytes bytes (rw c.as_str.ensures.value h) in
          rw (← opened.1) (decided.2 opened.0);
      replied = λ k.
          let empty = c.in_ok-replies.ensures.empty k in
          let text = c.in_ok-write_answered.ensures.replies empty.0 in
          (text.0, all_written _ _ _ text.1 empty.1 ∙ decided.1.1);
      back = rw decided.1.0.0 at c.in_ok-write_answered.ensures.back;
      bodies = decided.1.2;
      booked = λ k.
          let empty = c.in_ok-new_book.ensures.empty k in
          let text = c.in_ok-write_answered.ensures.book empty.0 in
          (text.0, all_written _ _ _ text.1 empty.1 ∙ ap book_text decided.1.0.0);
    }
