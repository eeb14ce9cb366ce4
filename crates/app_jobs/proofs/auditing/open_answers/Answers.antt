use Rattle.std.proofs.Common.{inr}
use Rattle.std.proofs.lemmas.Result.{err_from_is_err_and}
use Rattle.app_jobs.proofs.auditing.open_answers.Goals as goal

pub returns-clause-held : goal.returns-clause-held
returns-clause-held g c = record {
  replies_there = λ k. rw c.as_str.ensures.value at c.in_ok-replies.ensures.there k;
  after_there = λ k. rw c.as_str-2.ensures.value at c.in_ok-after.ensures.there k;
  answered = λ bytes h. c.in_ok-replies.ensures.replies bytes (rw c.as_str.ensures.value h);
  after = λ bytes h. c.in_ok-after.ensures.book bytes (rw c.as_str-2.ensures.value h);
}

pub returns-in_err-after-clause-fault : goal.returns-in_err-after-clause-fault
returns-in_err-after-clause-fault g c =
    let p = err_from_is_err_and c.from_residual-in_err-after.result c.from_residual-in_err-after.ensures.1 in
    let replies = rw c.as_str.ensures.value at c.in_ok-replies.ensures.replies in
    rw (p.1, p.2) (inr ((c.in_ok-replies.replies.items, replies), rw c.as_str-2.ensures.value at c.in_err-after.ensures.fault))
