use Rattle.std.proofs.Common.{◌≡◌, ℕ, List, ◌++◌, ap, inr, ◌∙◌}
use Rattle.std.proofs.lemmas.Result.{err_from_is_err_and}
use Rattle.file_batch.specs.Window.{ahead}
use Rattle.file_laws.specs.Blocks.{IsBlock, blocks_magic}
use Rattle.file_blocks.specs.BlockFiles.{frames_of}
use Rattle.std.proofs.lemmas.List.{length-map}
use Rattle.file_blocks.proofs.ReadBlocks.{is_file}
use Rattle.file_blocks.proofs.block_files.read_blocks.Goals as goal

pub returns-in_err-read_end-clause-gives : goal.returns-in_err-read_end-clause-gives
returns-in_err-read_end-clause-gives g c = λ known.
    let p = err_from_is_err_and c.from_residual-in_err-read_end.result c.from_residual-in_err-read_end.ensures.1 in
    let bytes = g.R.Source.remaining c.args.source.now in
    let whole : ahead c.in_ok-window.window bytes ≡ bytes = ap (λ (x : List ℕ). x ++ bytes) c.in_ok-window.ensures in
    let behind = ahead c.read_block_head.new.window (g.R.Source.remaining c.read_block_head.new.source) in
    let left = ahead c.read_blocks_of.new.window (g.R.Source.remaining c.read_blocks_of.new.source) in
    let in_head = c.in_ok-count.ensures.device.known known in
    let in_blocks = c.in_ok-blocks.ensures.device.known in_head in
    let given = c.in_ok-blocks.ensures.gives in_head in
    rw (p.1, p.2) (λ of_bytes. inr (
      c.in_ok-count.count,
      behind,
      rw whole at (c.in_ok-count.ensures.gives known),
      (
        frames_of c.in_ok-blocks.blocks.items,
        left,
        given.0,
        inr (length-map c.in_ok-blocks.blocks.items (λ block. block.items) ∙ given.1, c.in_err-read_end.ensures.gives in_blocks of_bytes),
      ),
    ))

pub returns-clause-gives : goal.returns-clause-gives
returns-clause-gives g c = λ known.
    let bytes = g.R.Source.remaining c.args.source.now in
    let whole : ahead c.in_ok-window.window bytes ≡ bytes = ap (λ (x : List ℕ). x ++ bytes) c.in_ok-window.ensures in
    let behind = ahead c.read_block_head.new.window (g.R.Source.remaining c.read_block_head.new.source) in
    let left = ahead c.read_blocks_of.new.window (g.R.Source.remaining c.read_blocks_of.new.source) in
    let in_head = c.in_ok-count.ensures.device.known known in
    let in_blocks = c.in_ok-blocks.ensures.device.known in_head in
    let given = c.in_ok-blocks.ensures.gives in_head in
    is_file IsBlock blocks_magic bytes behind left c.in_ok-count.count c.in_ok-blocks.blocks.items
    (rw whole at (c.in_ok-count.ensures.gives known)) given.0 given.1 (c.in_ok-read_end.ensures.gives in_blocks)
