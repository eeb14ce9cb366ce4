use Rattle.std.proofs.Common.{ℕ, ◌≡◌, Some, slice_get, sym, subst, refl, arith, length, length-append}
use Rattle.std.proofs.lemmas.Option.{slice_get_read}
use Rattle.engine_parts.proofs.ApartLaws.{one_more}
use Rattle.engine_parts.specs.Ties.{numbers_of}
use Rattle.engine_parts.proofs.planning.heads_of.Goals as goal

pub loop-frame-preserved : goal.loop-frame-preserved
loop-frame-preserved c =
    let so_far = c.loop-frame.invariant in
    let frames = c.args.frames.now in
    let frame = c.frame-item.result in
    let old = c.loop-frame.ties in
    let new = c.head_of.new.self in
    let at : slice_get frames (length c.loop-frame.heads.items) ≡ Some frame
    = subst (λ (i : ℕ). slice_get frames i ≡ Some frame) (sym so_far.each) (slice_get_read frames (length frames) c.loop-frame.frame-index frame refl c.loop-frame-test.true c.frame-item.is) in
    record {
      funds = c.in_ok-head_of.ensures.funds;
      each = rw (c.in_ok-push.ensures.items) (omega (arith, length-append {A = ℕ}, so_far.each));
      heads = rw (c.in_ok-push.ensures.items)
          (one_more c.args.book.now (numbers_of old) (numbers_of new) old.links.items new.links.items c.loop-frame.heads.items c.in_ok-head_of.field-0 frames frame
          so_far.heads c.in_ok-head_of.ensures.kept at c.in_ok-head_of.ensures.tied);
    }
