use Rattle.std.proofs.Common.{inl, inr}
use Rattle.std.proofs.lemmas.Result.{err_from_is_err_and}
use Rattle.file_blocks.specs.BlockFiles.{replies_of}
use Rattle.app_jobs.proofs.auditing_blocks.audit_answers.Goals as goal

pub returns-clause-audited : goal.returns-clause-audited
returns-clause-audited g c = record {
  answers = replies_of c.in_ok-replies.replies.items;
  rows_after_them = c.in_ok-after.after;
  replies_there = λ k. rw c.as_str.ensures.value at c.in_ok-replies.ensures.there k;
  after_there = λ k. rw c.as_str-2.ensures.value at c.in_ok-after.ensures.there k;
  answered = λ bytes h. c.in_ok-replies.ensures.replies bytes (rw c.as_str.ensures.value h);
  after = λ bytes h. c.in_ok-after.ensures.book bytes (rw c.as_str-2.ensures.value h);
  finds = rw c.deref.ensures.value at c.in_ok-audit_blocks.ensures;
}

pub returns-in_err-after-clause-fault : goal.returns-in_err-after-clause-fault
returns-in_err-after-clause-fault g c =
    let p = err_from_is_err_and c.from_residual-in_err-after.result c.from_residual-in_err-after.ensures.1 in
    let replies = rw c.as_str.ensures.value at c.in_ok-replies.ensures.replies in
    rw (p.1, p.2) (inr (
      (replies_of c.in_ok-replies.replies.items, replies),
      inl (rw c.as_str-2.ensures.value at c.in_err-after.ensures.fault),
    ))
