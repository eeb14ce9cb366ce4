use Rattle.std.proofs.Common.{refl}
use Rattle.std.proofs.lemmas.Option.{slice_get_read}
use Rattle.std.proofs.lemmas.Result.{IfOk-weaker}
use Rattle.issuer_reasons.proofs.Replies.{explained_at}
use Rattle.issuer_reasons.proofs.explaining.explain_at.Goals as goal

pub returns : goal.returns
returns c =
    IfOk-weaker c.explain.result _ _
    (λ e h. explained_at c.args.book c.in_ok-before.before.book c.args.frames.now c.args.index c.index-frames-index.result e
    (slice_get_read _ _ _ _ refl c.requires.within c.index-frames-index.is) (rw (c.new.ensures.count, c.new.ensures.book) at c.in_ok-before.ensures.book) h)
    c.explain.ensures
