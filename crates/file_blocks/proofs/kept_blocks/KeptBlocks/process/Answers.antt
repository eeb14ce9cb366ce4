use Rattle.std.proofs.Common.{◌≡◌, ◌++◌, refl, inl, inr, IsTrue}
use Rattle.std.proofs.lemmas.Result.{err_from_is_err_and}
use Rattle.file_batch.specs.Words.{block_replies_magic, head_text}
use Rattle.file_batch.specs.Window.{ahead}
use Rattle.file_blocks.proofs.Blocking.{finishes, halts_behind, halts_in_head, halts_moved, moved}
use Rattle.file_blocks.proofs.kept_blocks.KeptBlocks.process.Goals as goal

pub returns-in_err-write_head-clause-err : goal.returns-in_err-write_head-clause-err
returns-in_err-write_head-clause-err g c =
    let p = err_from_is_err_and c.from_residual-in_err-write_head.result c.from_residual-in_err-write_head.ensures.1 in
    let source = c.args.source.now in
    let sink = c.args.sink.now in
    let behind = ahead c.read_block_head.new.window (g.R.Source.remaining c.read_block_head.new.source) in
    rw (p.1, p.2) (halts_in_head c.args.self.now.book c.args.self.now.blocks (g.R.Source.is_known source) (g.R.Source.remaining source) c.in_ok-count.count behind
    (g.W.Sink.is_known sink) (g.W.Sink.written sink) (g.W.Sink.written c.write_head.new.sink) c.in_err-write_head.field-0.0
    (IsTrue (g.W.Sink.has_failed c.write_head.new.sink) × g.W.Sink.may_fail sink) (c.write_head.new.sink ≡ sink)
    c.requires.none.0 (λ known. rw c.in_ok-window.ensures at (c.in_ok-count.ensures.gives known)) c.in_err-write_head.ensures.fault c.in_err-write_head.ensures.err)

pub returns-in_err-decide_blocks-clause-err : goal.returns-in_err-decide_blocks-clause-err
returns-in_err-decide_blocks-clause-err g c =
    let p = err_from_is_err_and c.from_residual-in_err-decide_blocks.result c.from_residual-in_err-decide_blocks.ensures.1 in
    let source = c.args.source.now in
    let sink = c.args.sink.now in
    let behind = ahead c.read_block_head.new.window (g.R.Source.remaining c.read_block_head.new.source) in
    let after = c.write_head.new.sink in
    rw (p.1, p.2) (inr (inr (
      c.in_ok-count.count,
      behind,
      λ known. rw c.in_ok-window.ensures at (c.in_ok-count.ensures.gives known),
      halts_moved c.in_ok-count.count c.args.self.now.book c.decide_blocks.new.self.book c.decide_blocks.new.self.blocks (g.R.Source.is_known source) (g.R.Source.is_known c.read_block_head.new.source) behind
          (g.W.Sink.is_known sink) (g.W.Sink.is_known after) (g.W.Sink.written sink ++ head_text block_replies_magic c.in_ok-count.count) (g.W.Sink.written after) (g.W.Sink.written c.decide_blocks.new.sink)
          c.in_err-decide_blocks.field-0.0 (IsTrue (g.W.Sink.has_failed c.decide_blocks.new.sink) × g.W.Sink.may_fail sink) (IsTrue (g.W.Sink.has_failed c.decide_blocks.new.sink) × g.W.Sink.may_fail after)
          c.in_err-decide_blocks.ensures.err (λ known. c.in_ok-count.ensures.device.known known) (λ known. c.in_ok-write_head.ensures.device.known known) (λ f. (f.0, c.in_ok-write_head.ensures.device.may f.1)) (λ known. c.in_ok-write_head.ensures.ok known),
    )))

pub returns-in_err-read_end-clause-err : goal.returns-in_err-read_end-clause-err
returns-in_err-read_end-clause-err g c =
    let p = err_from_is_err_and c.from_residual-in_err-read_end.result c.from_residual-in_err-read_end.ensures.1 in
    let source = c.args.source.now in
    let sink = c.args.sink.now in
    let behind = ahead c.read_block_head.new.window (g.R.Source.remaining c.read_block_head.new.source) in
    let left = ahead c.decide_blocks.new.window (g.R.Source.remaining c.decide_blocks.new.source) in
    let after = c.write_head.new.sink in
    let self = c.decide_blocks.new.self in
    let heading = g.W.Sink.written sink ++ head_text block_replies_magic c.in_ok-count.count in
    let failed = IsTrue (g.W.Sink.has_failed c.decide_blocks.new.sink) × g.W.Sink.may_fail sink in
    rw (p.1, p.2) (inr (inr (
      c.in_ok-count.count,
      behind,
      λ known. rw c.in_ok-window.ensures at (c.in_ok-count.ensures.gives known),
      halts_behind c.in_ok-count.count c.args.self.now.book self.book self.blocks self.messages (g.R.Source.is_known source) (g.R.Source.is_known c.decide_blocks.new.source) behind left
          (g.W.Sink.is_known sink) heading (g.W.Sink.written c.decide_blocks.new.sink) c.in_err-read_end.field-0.0 failed
          (moved c.args.self.now.book self.book self.blocks self.messages (g.R.Source.is_known source) (g.R.Source.is_known c.read_block_head.new.source) behind left
          (g.W.Sink.is_known sink) (g.W.Sink.is_known after) heading (g.W.Sink.written after) (g.W.Sink.written c.decide_blocks.new.sink)
          c.in_ok-decide_blocks.ensures.ok (λ known. c.in_ok-count.ensures.device.known known) (λ known. c.in_ok-write_head.ensures.device.known known) (λ known. c.in_ok-write_head.ensures.ok known))
          c.in_ok-decide_blocks.ensures.all (λ known. c.in_ok-decide_blocks.ensures.devices.read_known (c.in_ok-count.ensures.device.known known)) (λ known. c.in_err-read_end.ensures.gives known),
    )))

pub returns-clause-ok : goal.returns-clause-ok
returns-clause-ok g c =
    let source = c.args.source.now in
    let sink = c.args.sink.now in
    let behind = ahead c.read_block_head.new.window (g.R.Source.remaining c.read_block_head.new.source) in
    let left = ahead c.decide_blocks.new.window (g.R.Source.remaining c.decide_blocks.new.source) in
    let after = c.write_head.new.sink in
    let self = c.decide_blocks.new.self in
    let heading = g.W.Sink.written sink ++ head_text block_replies_magic c.in_ok-count.count in
    finishes c.args.self.now.book self.book self.blocks self.messages c.in_ok-count.count (g.R.Source.is_known source) (g.R.Source.remaining source) behind left
    (g.W.Sink.is_known sink) (g.W.Sink.written sink) heading (g.W.Sink.written c.decide_blocks.new.sink)
    (moved c.args.self.now.book self.book self.blocks self.messages (g.R.Source.is_known source) (g.R.Source.is_known c.read_block_head.new.source) behind left
    (g.W.Sink.is_known sink) (g.W.Sink.is_known after) heading (g.W.Sink.written after) (g.W.Sink.written c.decide_blocks.new.sink)
    c.in_ok-decide_blocks.ensures.ok (λ known. c.in_ok-count.ensures.device.known known) (λ known. c.in_ok-write_head.ensures.device.known known) (λ known. c.in_ok-write_head.ensures.ok known))
    c.in_ok-decide_blocks.ensures.all c.in_ok-count.ensures.most (λ known. rw c.in_ok-window.ensures at (c.in_ok-count.ensures.gives known))
    (λ known. c.in_ok-read_end.ensures.gives (c.in_ok-decide_blocks.ensures.devices.read_known (c.in_ok-count.ensures.device.known known))) (λ known. refl)

pub returns-in_err-window-clause-err : goal.returns-in_err-window-clause-err
returns-in_err-window-clause-err g c =
    let p = err_from_is_err_and c.from_residual.result c.from_residual.ensures.1 in
    rw (p.1, p.2) (inl (c.requires.none.0, refl, refl, λ known of_bytes. absurd cc))

pub returns-in_err-count-clause-err : goal.returns-in_err-count-clause-err
returns-in_err-count-clause-err g c =
    let p = err_from_is_err_and c.from_residual-in_err-count.result c.from_residual-in_err-count.ensures.1 in
    rw (p.1, p.2) (inl (c.requires.none.0, refl, refl, λ known of_bytes. rw c.in_ok-window.ensures at (c.in_err-count.ensures.gives known of_bytes)))
