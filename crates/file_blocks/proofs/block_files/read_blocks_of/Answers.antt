use Rattle.std.proofs.Common.{rules, ◌≡◌, ◌++◌, ◌∷◌, [], ◌≤◌, length, arith, refl, inl}
use Rattle.std.proofs.lemmas.List.Elements.{All-nil, All-push}
use Rattle.std.proofs.lemmas.Result.{err_from_is_err_and}
use Rattle.file_batch.specs.Window.{ahead}
use Rattle.file_laws.specs.Blocks.{IsBlock}
use Rattle.file_blocks.specs.BlockFiles.{frames_of}
use Rattle.std.proofs.lemmas.List.{length-map}
use Rattle.file_blocks.proofs.ReadBlocks.{goes_on}
use Rattle.file_blocks.proofs.block_files.read_blocks_of.Goals as goal

pub loop-init : goal.loop-init
loop-init g c = record {
  device = search rules;
  within = omega arith;
  count = search rules;
  each = rw c.new-blocks.ensures.items (All-nil (λ block. length block.items ≤ 65536));
  blocks = λ known. rw c.new-blocks.ensures.items refl;
}

pub returns-in_err-block-clause-gives : goal.returns-in_err-block-clause-gives
returns-in_err-block-clause-gives g c = λ known.
    let p = err_from_is_err_and c.from_residual.result c.from_residual.ensures.1 in
    rw (p.1, p.2) (λ of_bytes. (
      frames_of c.loop.blocks.items,
      ahead c.loop.window (g.R.Source.remaining c.loop.source),
      c.loop.invariant.blocks known,
      inl (
        omega (arith, c.loop-test.true, c.loop.invariant.count, length-map c.loop.blocks.items (λ block. block.items)),
        c.in_err-block.ensures.gives (c.loop.invariant.device.known known) of_bytes,
      ),
    ))

pub loop-preserved : goal.loop-preserved
loop-preserved g c =
    let after = c.read_block.new.window in
    let added : c.push.new.self.items ≡ c.loop.blocks.items ++ c.in_ok-block.block ∷ [] = c.in_ok-push.ensures.items in
    record {
      device = search rules;
      within = omega (arith, c.loop-test.true);
      count = grind arith;
      each = rw added (All-push (λ block. length block.items ≤ 65536) c.loop.blocks.items c.in_ok-block.block c.loop.invariant.each (omega (arith, c.in_ok-block.block.ok.0, c.in_ok-block.ensures.count)));
      blocks = λ known. rw added (goes_on IsBlock (ahead c.args.window.now (g.R.Source.remaining c.args.source.now)) c.loop.blocks.items
          (ahead c.loop.window (g.R.Source.remaining c.loop.source)) c.in_ok-block.block (ahead after (g.R.Source.remaining c.read_block.new.source))
          (c.loop.invariant.blocks known) (c.in_ok-block.ensures.gives (c.loop.invariant.device.known known)));
    }

pub returns-clause-gives : goal.returns-clause-gives
returns-clause-gives g c = λ known. (c.loop.invariant.blocks known, omega (arith, c.loop-test.false, c.loop.invariant.within, c.loop.invariant.count))
