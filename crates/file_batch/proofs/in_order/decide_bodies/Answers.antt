use Rattle.std.proofs.Common.{◌≡◌, ◌++◌, ℕ, length, refl, sym, ap, ◌∙◌}
use Rattle.std.proofs.lemmas.List.{append-nil}
use Rattle.file_laws.specs.Files.{head_text}
use Rattle.file_laws.specs.Reading.{replies_magic}
use Rattle.rtrb.specs.Ring.{sent}
use Rattle.file_batch.specs.InOrder.{texts_of}
use Rattle.file_batch.specs.Pieces.{HasTold, frames_in}
use Rattle.issuer_fold.proofs.FoldLaws.{length-replies_to}
use Rattle.issuer_rows.specs.Fold.{replies_to}
use Rattle.file_batch.proofs.in_order.decide_bodies.Goals as goal

pub returns-clause-decides : goal.returns-clause-decides
returns-clause-decides g c =
    let ends = c.in_ok-reader.ensures in
    let worked = c.in_ok-work_together.ensures in
    let frames = frames_in (sent c.work_together.new.reader.outbound) in
    let head = head_text replies_magic c.args.count in
    let had = worked.decided c.args.book ends.decided in
    let begun : HasTold head c.in_ok-reader.reader = rw ends.none.1 (ends.out ∙ sym (append-nil head), tt) in
    let all : c.args.count ≡ length frames = sym worked.read in
    let told = c.in_ok-decide_rest.ensures.told c.args.book head had (worked.told head begun) in
    let many : c.args.count ≡ length (replies_to c.args.book frames) = all ∙ sym (length-replies_to c.args.book frames) in (
      frames,
      (
        (c.in_ok-decide_rest.ensures.book c.args.book had, rw (all, c.in_ok-decide_rest.ensures.unreadable) refl),
        told.0 ∙ ap (λ (n : ℕ). head_text replies_magic n ++ texts_of (replies_to c.args.book frames)) many,
        (rw (sym many) c.requires.few, told.1),
      ),
      λ known. worked.gives known,
    )
