use Rattle.std.proofs.Common.{inl, inr}
use Rattle.std.proofs.lemmas.Result.{IfErr-weaker, IfOk-weaker, err_from_is_err_and}
use Rattle.file_blocks.specs.BlockFiles.{frames_of}
use Rattle.app_jobs.proofs.auditing_blocks.audit_block_files.Goals as goal

pub returns-clause-audited : goal.returns-clause-audited
returns-clause-audited g c = IfOk-weaker c.audit_answers.result _ _ (λ found h. record {
  rows = c.in_ok-book.book;
  blocks = frames_of c.in_ok-blocks.blocks.items;
  book_there = λ k. rw c.as_str.ensures.value at c.in_ok-book.ensures.there k;
  blocks_there = λ k. rw c.as_str-2.ensures.value at c.in_ok-blocks.ensures.there k;
  opening = λ bytes o. c.in_ok-book.ensures.book bytes (rw c.as_str.ensures.value o);
  read = λ bytes o. c.in_ok-blocks.ensures.blocks bytes (rw c.as_str-2.ensures.value o);
  answers = h;
}) (rw c.deref.ensures.value at c.audit_answers.ensures.audited)

pub returns-in_err-blocks-clause-fault : goal.returns-in_err-blocks-clause-fault
returns-in_err-blocks-clause-fault g c =
    let p = err_from_is_err_and c.from_residual-in_err-blocks.result c.from_residual-in_err-blocks.ensures.1 in
    let book = rw c.as_str.ensures.value at c.in_ok-book.ensures.book in
    rw (p.1, p.2) (inr ((c.in_ok-book.book, book), inl (rw c.as_str-2.ensures.value at c.in_err-blocks.ensures.fault)))

pub returns-clause-fault : goal.returns-clause-fault
returns-clause-fault g c =
    let book = rw c.as_str.ensures.value at c.in_ok-book.ensures.book in
    let blocks = rw c.as_str-2.ensures.value at c.in_ok-blocks.ensures.blocks in
    IfErr-weaker c.audit_answers.result _ _ (λ fault h. inr ((c.in_ok-book.book, book), inr ((frames_of c.in_ok-blocks.blocks.items, blocks), h))) c.audit_answers.ensures.fault
