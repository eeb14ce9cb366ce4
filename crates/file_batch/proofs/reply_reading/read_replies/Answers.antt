use Rattle.std.proofs.Common.{◌≡◌, ℕ, List, ◌++◌, ap, inr}
use Rattle.std.proofs.lemmas.Result.{err_from_is_err_and}
use Rattle.file_batch.specs.Window.{ahead}
use Rattle.file_laws.specs.Reading.{replies_magic}
use Rattle.file_batch.proofs.ReadBodies.{is_whole}
use Rattle.file_batch.proofs.reply_reading.read_replies.Goals as goal

pub returns-in_err-read_end-clause-gives : goal.returns-in_err-read_end-clause-gives
returns-in_err-read_end-clause-gives g c = λ known.
    let p = err_from_is_err_and c.from_residual-in_err-read_end.result c.from_residual-in_err-read_end.ensures.1 in
    let bytes = g.R.Source.remaining c.args.source.now in
    let whole : ahead c.in_ok-window.window bytes ≡ bytes = ap (λ (x : List ℕ). x ++ bytes) c.in_ok-window.ensures in
    let behind = ahead c.read_head.new.self (g.R.Source.remaining c.read_head.new.source) in
    let left = ahead c.read_replies.new.self (g.R.Source.remaining c.read_replies.new.source) in
    let in_head = c.in_ok-count.ensures.device.known known in
    let in_replies = c.in_ok-replies.ensures.device.known in_head in
    rw (p.1, p.2) (λ of_bytes. inr (
      c.in_ok-count.count,
      behind,
      rw whole at (c.in_ok-count.ensures.gives known),
      inr (c.in_ok-replies.replies.items, left, c.in_ok-replies.ensures.gives in_head, c.in_err-read_end.ensures.gives in_replies of_bytes),
    ))

pub returns-clause-gives : goal.returns-clause-gives
returns-clause-gives g c = λ known.
    let bytes = g.R.Source.remaining c.args.source.now in
    let whole : ahead c.in_ok-window.window bytes ≡ bytes = ap (λ (x : List ℕ). x ++ bytes) c.in_ok-window.ensures in
    let behind = ahead c.read_head.new.self (g.R.Source.remaining c.read_head.new.source) in
    let left = ahead c.read_replies.new.self (g.R.Source.remaining c.read_replies.new.source) in
    let in_head = c.in_ok-count.ensures.device.known known in
    let given = c.in_ok-replies.ensures.gives in_head in
    let end = c.in_ok-read_end.ensures.gives (c.in_ok-replies.ensures.device.known in_head) in
    (given.0, is_whole replies_magic bytes c.in_ok-count.count behind given.0 left (rw whole at (c.in_ok-count.ensures.gives known)) given.1 end, given.2)
