use Rattle.std.proofs.Common.{rules, ◌≡◌, ◌≤◌, ◌++◌, ◌∷◌, [], length, arith, refl, inl}
use Rattle.std.proofs.lemmas.Result.{err_from_is_err_and}
use Rattle.std.proofs.lemmas.List.Elements.{All-nil, All-push}
use Rattle.file_batch.specs.Window.{ahead}
use Rattle.file_laws.specs.Blocks.{IsReplyBlock}
use Rattle.file_blocks.specs.BlockFiles.{replies_of}
use Rattle.std.proofs.lemmas.List.{length-map}
use Rattle.file_blocks.proofs.ReadBlocks.{goes_on}
use Rattle.file_blocks.proofs.ReadReplyBlocks.{counts_on}
use Rattle.file_blocks.proofs.block_replies.read_reply_blocks.Goals as goal

pub loop-init : goal.loop-init
loop-init g c = record {
  device = search rules;
  within = omega arith;
  count = search rules;
  each = rw c.new-blocks.ensures.items (All-nil (λ block. length block.items ≤ 65536));
  from = rw c.new-blocks.ensures.items refl;
  most = omega arith;
  blocks = λ known. rw c.new-blocks.ensures.items refl;
}

pub returns-in_err-block-clause-gives : goal.returns-in_err-block-clause-gives
returns-in_err-block-clause-gives g c = λ known.
    let p = err_from_is_err_and c.from_residual.result c.from_residual.ensures.1 in
    rw (p.1, p.2) (λ of_bytes. (
      replies_of c.loop.blocks.items,
      ahead c.loop.window (g.R.Source.remaining c.loop.source),
      c.loop.invariant.blocks known,
      inl (
        omega (arith, c.loop-test.true, c.loop.invariant.count, length-map c.loop.blocks.items (λ block. block.items)),
        rw c.loop.invariant.from at (c.in_err-block.ensures.gives (c.loop.invariant.device.known known) of_bytes),
      ),
    ))

pub loop-preserved : goal.loop-preserved
loop-preserved g c =
    let after = c.read_reply_block.new.window in
    let block = c.in_ok-block.block in
    let added : c.push.new.self.items ≡ c.loop.blocks.items ++ block ∷ [] = c.in_ok-push.ensures.items in
    record {
      device = search rules;
      within = omega (arith, c.loop-test.true);
      count = grind arith;
      each = rw added (All-push (λ block. length block.items ≤ 65536) c.loop.blocks.items block c.loop.invariant.each (omega (arith, block.ok.0, c.in_ok-block.ensures.count)));
      from = rw added (omega (arith, c.loop.invariant.from, counts_on c.loop.blocks.items block, block.ok.0));
      most = omega (arith, c.loop.invariant.most, c.in_ok-block.ensures.count);
      blocks = λ known. rw added (goes_on IsReplyBlock (ahead c.args.window.now (g.R.Source.remaining c.args.source.now)) c.loop.blocks.items
          (ahead c.loop.window (g.R.Source.remaining c.loop.source)) block (ahead after (g.R.Source.remaining c.read_reply_block.new.source))
          (c.loop.invariant.blocks known) (c.in_ok-block.ensures.gives (c.loop.invariant.device.known known)));
    }

pub returns-clause-gives : goal.returns-clause-gives
returns-clause-gives g c = λ known. (c.loop.invariant.blocks known, omega (arith, c.loop-test.false, c.loop.invariant.within, c.loop.invariant.count))
