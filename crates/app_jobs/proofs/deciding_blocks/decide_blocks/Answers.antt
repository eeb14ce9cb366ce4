use Rattle.std.proofs.Common.{rules, ◌∙◌, inl, inr}
use Rattle.std.proofs.lemmas.Result.{err_from_is_err_and}
use Rattle.app_jobs.proofs.AnsweredFiles.{are_strict, untouched}
use Rattle.app_jobs.proofs.deciding_blocks.decide_blocks.Goals as goal

pub returns-in_err-processed : goal.returns-in_err-processed
returns-in_err-processed g c =
    let p = err_from_is_err_and c.from_residual-in_err-processed.result c.from_residual-in_err-processed.ensures.1 in
    let book = rw c.as_str.ensures.value at c.in_ok-book.ensures.book in
    record {
      decides = record {
        decided = search rules;
        admitted = search rules;
        halted = search rules;
        fault = rw (p.1, p.2.0) (inr ((c.in_ok-book.book, book), inl c.in_err-processed.ensures.fault));
        kept = rw p.1 (λ none. untouched (g.F.Files.holds c.args.files.now));
        others = λ other apart further. untouched (g.F.Files.holds c.args.files.now) other;
        known = search rules;
      };
    }

pub returns-in_err-admit-in-Ok : goal.returns-in_err-admit-in-Ok
returns-in_err-admit-in-Ok g c =
    let p = err_from_is_err_and c.from_residual-in_err-admit-in-Ok.result c.from_residual-in_err-admit-in-Ok.ensures.1 in
    let book = rw c.as_str.ensures.value at c.in_ok-book.ensures.book in
    let answered = rw c.in-Ok.is at c.in_ok-processed.ensures.ok in
    record {
      decides = record {
        decided = search rules;
        admitted = search rules;
        halted = search rules;
        fault = rw (p.1, p.2.0) (inr (
          (c.in_ok-book.book, book),
          inr (inr (are_strict _ _ _ answered.blocks _ _ c.in_err-admit-in-Ok.ensures.refused answered.all answered.read)),
        ));
        kept = rw p.1 (λ none. untouched (g.F.Files.holds c.args.files.now));
        others = λ other apart further. untouched (g.F.Files.holds c.args.files.now) other;
        known = search rules;
      };
    }

pub returns-in_err-put_blocks-in-Ok : goal.returns-in_err-put_blocks-in-Ok
returns-in_err-put_blocks-in-Ok g c =
    let p = err_from_is_err_and c.from_residual-in_err-put_blocks-in-Ok.result c.from_residual-in_err-put_blocks-in-Ok.ensures.1 in
    let book = rw c.as_str.ensures.value at c.in_ok-book.ensures.book in
    let answered = rw c.in-Ok.is at c.in_ok-processed.ensures.ok in
    let put = c.in_err-put_blocks-in-Ok.ensures.puts in
    record {
      decides = record {
        decided = search rules;
        admitted = search rules;
        halted = search rules;
        fault = rw (p.1, p.2.0) (inr ((c.in_ok-book.book, book), inr (inl ((answered.blocks, answered.read), put.fault))));
        kept = rw p.1 (λ none. put.kept);
        others = put.others;
        known = put.known;
      };
    }

pub returns-in_ok-put_blocks-in-Ok : goal.returns-in_ok-put_blocks-in-Ok
returns-in_ok-put_blocks-in-Ok g c =
    let book = rw c.as_str.ensures.value at c.in_ok-book.ensures.book in
    let there = rw c.as_str.ensures.value at c.in_ok-book.ensures.there in
    let answered = rw c.in-Ok.is at c.in_ok-processed.ensures.ok in
    let put = c.in_ok-put_blocks-in-Ok.ensures.puts in
    record {
      decides = record {
        decided = record {
          rows = c.in_ok-book.book;
          blocks = answered.blocks;
          number = answered.number;
          all = answered.all;
          book_there = there;
          blocks_there = c.in_ok-processed.ensures.there;
          opening = book;
          read = answered.read;
          back = rw (← answered.book) c.in_ok-put_blocks-in-Ok.ensures.back;
          bodies = answered.bodies;
          after = λ k. rw (← answered.book) (put.book k);
          answered = λ k apart. rw (← answered.replied k) (put.replies k apart (c.in_ok-processed.ensures.known k));
        };
        admitted = c.in_ok-admit-in-Ok.ensures.admitted;
        halted = tt;
        fault = tt;
        kept = tt;
        others = put.others;
        known = put.known;
      };
    }

pub returns-in-Lenient : goal.returns-in-Lenient
returns-in-Lenient g c =
    let book = rw c.as_str.ensures.value at c.in_ok-book.ensures.book in
    let there = rw c.as_str.ensures.value at c.in_ok-book.ensures.there in
    let answered = rw c.in-Err.is at c.in_ok-processed.ensures.some in
    let stopped = rw c.in-Err.is at c.in_ok-processed.ensures.stopped in
    record {
      decides = record {
        decided = tt;
        admitted = tt;
        halted = λ count kept.
            let put = c.keep_blocks.ensures.kept count kept in (
              c.in-Lenient.is,
              c.in-Err.halted.fault,
              c.keep_blocks.ensures.fault,
              record {
                rows = c.in_ok-book.book;
                blocks = answered.blocks;
                number = put.0 ∙ answered.number;
                total = answered.total;
                book_there = there;
                blocks_there = c.in_ok-processed.ensures.there;
                opening = book;
                read = answered.read;
                fails = answered.fails;
                after = λ k. rw (← answered.book) (put.1.book k);
                answered = λ k apart. (g.F.Output.Sink.written c.in_ok-processed.replies, put.1.replies k apart (c.in_ok-processed.ensures.known k), answered.replied k);
              },
            );
        fault = rw c.keep_blocks.ensures.fault (inr ((c.in_ok-book.book, book), inl stopped));
        kept = c.keep_blocks.ensures.same;
        others = c.keep_blocks.ensures.others;
        known = c.keep_blocks.ensures.known;
      };
    }

pub returns-in-Strict : goal.returns-in-Strict
returns-in-Strict g c =
    let book = rw c.as_str.ensures.value at c.in_ok-book.ensures.book in
    let stopped = rw c.in-Err.is at c.in_ok-processed.ensures.stopped in
    record {
      decides = record {
        decided = tt;
        admitted = tt;
        halted = λ count kept. absurd (cc (c.from.ensures.1, kept));
        fault = rw c.from.ensures.0 (inr ((c.in_ok-book.book, book), inl stopped));
        kept = λ none. untouched (g.F.Files.holds c.args.files.now);
        others = λ other apart further. untouched (g.F.Files.holds c.args.files.now) other;
        known = search rules;
      };
    }
