use Rattle.std.proofs.Common.{rules, ◌≡◌, ℕ, List, [], ◌++◌, length, ap, sym, ◌∙◌, arith}
use Rattle.std.proofs.lemmas.Result.{err_from_is_err_and}
use Rattle.file_laws.proofs.FoldedBlocks.{one_book, blocks_replied}
use Rattle.file_batch.specs.Words.{block_replies_magic, head_text, replies_to_blocks}
use Rattle.issuer_rows.specs.Fold.{rows_after}
use Rattle.log_replay.proofs.Cutting.{length-cut}
use Rattle.log_replay.proofs.Reading.{replay_fault_more}
use Rattle.log_replay.proofs.Taking.{all_written, none_taken, taken_all}
use Rattle.log_replay.proofs.replaying.replay_log.Goals as goal

pub returns-in_err-take_log-clause-fault : goal.returns-in_err-take_log-clause-fault
returns-in_err-take_log-clause-fault g c =
    let p = err_from_is_err_and c.from_residual-in_err-take_log.result c.from_residual-in_err-take_log.ensures.1 in
    let width : length c.args.digest.now ≡ 32 = first_of (search rules, omega arith) in
    let read = c.in_ok-reader.ensures in
    rw (p.1, p.2) (replay_fault_more _ _ _ _ _ _ _ _ _ _ _ (λ known. (read.known known, read.read known)) read.still
    (λ other known size. other (read.known known, read.read known) c.args.size.torn size) c.write_head.ensures.sink.may
    (c.in_err-take_log.ensures.fault c.args.digest.now (g.R.Source.remaining c.args.source) width))

pub returns-clause-replayed : goal.returns-clause-replayed
returns-clause-replayed g c =
    let rows = c.args.book in
    let read = c.in_ok-reader.ensures in
    let log = c.in_ok-take_log.ensures.takes in
    let start = none_taken rows c.new-answering.result c.new-answering.ensures.book c.new-answering.ensures.block c.new-answering.ensures.count in
    let took = log.takes rows [] [] start in
    let done = c.in_ok-finish.ensures.finishes rows log.messages took.0 took.1 in
    let end = done.1 in
    let count = length-cut end.blocks end.cut.cut in
    let number : length end.blocks ≡ c.blocks_of.result = omega (
      arith,
      count.0,
      count.1,
      ap length end.cut.all,
      taken_all rows log.messages took.0 c.take_log.new.answering took.1,
      c.in_ok-take_log.ensures.all,
      c.blocks_of.ensures.all,
      c.blocks_of.ensures.last,
    ) in
    let blocks : length (replies_to_blocks rows end.blocks) ≡ c.blocks_of.result = blocks_replied rows end.blocks ∙ number in
    let had = g.W.Sink.written c.args.sink.now in
    record {
      messages = log.messages;
      blocks = end.blocks;
      logged = λ known. log.logged c.args.digest.now (g.R.Source.remaining c.args.source) (read.known known, read.read known);
      cut = end.cut;
      counted = end.count;
      book = end.book ∙ one_book rows end.blocks ∙ ap (rows_after rows) end.cut.all;
      bodies = (omega (arith, blocks, c.blocks_of.ensures.last, c.requires.few), end.bodies);
      replied = λ known.
          let one = c.write_head.ensures.sink.known known in
          let two = c.take_log.ensures.known one in
          all_written had _ _ _ _ took.0 done.0 (c.in_ok-write_head.ensures.ok known) (took.2 one) (done.2 two)
          ∙ ap (λ (n : ℕ). had ++ (head_text block_replies_magic n ++ (took.0 ++ done.0))) (sym blocks)
          ∙ ap (λ (text : List ℕ). had ++ (head_text block_replies_magic (length (replies_to_blocks rows end.blocks)) ++ text)) end.replied;
    }
