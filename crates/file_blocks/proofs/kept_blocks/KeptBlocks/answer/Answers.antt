use Rattle.std.proofs.lemmas.Result.{err_from_is_err_and}
use Rattle.std.proofs.Common.{◌≡◌, length, arith, ap, ◌∙◌, inl, refl}
use Rattle.file_batch.proofs.Folds.{as_many}
use Rattle.file_blocks.proofs.kept_blocks.KeptBlocks.answer.Goals as goal

pub write_block-requires : goal.write_block-requires
write_block-requires g c =
    let book = c.args.self.now.book in
    let frames = c.args.frames.now in
    let decided = (c.requires.decider.in_place _ _ _ _ c.in_ok-decided.ensures).0 in
    let same : length c.in_ok-decided.decided.replies.items ≡ length frames = ap length decided.replies ∙ as_many book frames in
    record { many = omega (arith, ap length c.deref.ensures.value, same, c.requires.count) }

pub returns-in_err-decided-clause-err : goal.returns-in_err-decided-clause-err
returns-in_err-decided-clause-err g c =
    let p = err_from_is_err_and c.from_residual.result c.from_residual.ensures.1 in
    rw p.1 (inl refl)

pub returns-in_err-decided-clause-kept : goal.returns-in_err-decided-clause-kept
returns-in_err-decided-clause-kept g c =
    let p = err_from_is_err_and c.from_residual.result c.from_residual.ensures.1 in
    rw (p.1, (c.requires.decider.in_place _ _ _ _ c.in_err-decided.ensures).1) refl

pub returns-in-Ok-clause-book : goal.returns-in-Ok-clause-book
returns-in-Ok-clause-book g c = c.keep.ensures.book ∙ (c.requires.decider.in_place _ _ _ _ c.in_ok-decided.ensures).0.book

pub returns-in-Ok-clause-put : goal.returns-in-Ok-clause-put
returns-in-Ok-clause-put g c = λ known. rw (c.deref.ensures.value, (c.requires.decider.in_place _ _ _ _ c.in_ok-decided.ensures).0.replies) at (c.in-Ok.ensures.ok known)

pub returns-in-Ok-clause-bodies : goal.returns-in-Ok-clause-bodies
returns-in-Ok-clause-bodies g c = rw (c.deref.ensures.value, (c.requires.decider.in_place _ _ _ _ c.in_ok-decided.ensures).0.replies) at c.in-Ok.ensures.bodies

pub give_back-requires : goal.give_back-requires
give_back-requires g c = (c.requires.decider.in_place _ _ _ _ c.in_ok-decided.ensures).0.back.there

pub returns-in-Err-clause-kept : goal.returns-in-Err-clause-kept
returns-in-Err-clause-kept g c = rw (c.give_back.ensures, (c.requires.decider.in_place _ _ _ _ c.in_ok-decided.ensures).0.back.same) refl

pub returns-in-Err-clause-err : goal.returns-in-Err-clause-err
returns-in-Err-clause-err g c = rw (c.deref.ensures.value, (c.requires.decider.in_place _ _ _ _ c.in_ok-decided.ensures).0.replies) at c.in-Err.ensures.err
