use Rattle.std.proofs.Common.{rules}
use Rattle.issuer_fold.proofs.BackLaws.{leads_back_still}
use Rattle.engine_parts.proofs.JoinLaws.{to_write}
use Rattle.engine_parts.proofs.writing.put_book_noted.Goals as goal

pub loop-key-init : goal.loop-key-init
loop-key-init c =
    let begins = to_write c.args.book.now c.args.written.now c.rows-key-items.result _ c.rows-key-items.ensures c.into_iter-key-iterator.ensures.into_iter_gives in
    record { left = begins.0; there = begins.1; back = λ earlier before. before }

pub loop-key-preserved : goal.loop-key-preserved
loop-key-preserved c =
    let put = c.in_ok-put.ensures in
    record {
      left = search rules;
      there = search rules;
      back = λ earlier before.
          rw (put.book, put.noted) (leads_back_still c.loop-key.book c.loop-key.formers earlier c.in-Some.key.now c.row_of.result.now (c.loop-key.invariant.back earlier before));
    }

pub returns-in_err-put-clause-back : goal.returns-in_err-put-clause-back
returns-in_err-put-clause-back c = λ earlier before. rw (c.in_err-put.ensures.err.0, c.in_err-put.ensures.err.1) (c.loop-key.invariant.back earlier before)
