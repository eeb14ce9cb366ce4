use Rattle.std.proofs.Common.{◌≡◌, ℕ, List, ◌++◌, ap}
use Rattle.file_laws.specs.Reading.{batch_magic}
use Rattle.file_batch.specs.Window.{ahead}
use Rattle.file_batch.proofs.ReadBodies.{is_whole}
use Rattle.file_batch.proofs.in_order.decide_in_order.Goals as goal

pub returns-clause-decides : goal.returns-clause-decides
returns-clause-decides g c =
    let bytes = g.R.Source.remaining c.args.source.now in
    let whole : ahead c.in_ok-window.window bytes ≡ bytes = ap (λ (x : List ℕ). x ++ bytes) c.in_ok-window.ensures in
    let behind = ahead c.read_head.new.self (g.R.Source.remaining c.read_head.new.source) in
    let left = ahead c.decide_bodies.new.window (g.R.Source.remaining c.decide_bodies.new.source) in
    let decided = c.in_ok-answered.ensures.decides in (
      decided.0,
      decided.1,
      λ known.
          let in_head = c.in_ok-count.ensures.device.known known in
          let given = decided.2 in_head in
          let end = c.in_ok-read_end.ensures.gives (c.in_ok-answered.ensures.device.known in_head) in
          (given.0, is_whole batch_magic bytes c.in_ok-count.count behind given.0 left (rw whole at (c.in_ok-count.ensures.gives known)) given.1 end, given.2),
    )
