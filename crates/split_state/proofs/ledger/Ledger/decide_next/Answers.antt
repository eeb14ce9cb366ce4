use Rattle.std.proofs.Common.{◌<◌, IfSome, OnOk, length, slice_get, subst, sym}
use Rattle.issuer_words.specs.Words.{Frame, IsLocal, reply_of}
use Rattle.split_state.proofs.LedgerLaws.{decided_or_kept, next_local}
use Rattle.split_state.specs.Progress.{Progress, book_of}
use Rattle.split_state.proofs.ledger.Ledger.decide_next.Goals as goal

pub invariant_of-self : goal.invariant_of-self
invariant_of-self g c =
    let p : Progress = record { opening = c.self.inside.opening.now; frames = c.self.inside.frames.now; count = c.self.inside.prefix.count } in
    let within : p.count < length p.frames = subst (λ (x : Progress). x.count < length x.frames) (sym c.self.view_is) c.requires in
    decided_or_kept p c.index-self-index.result c.self.inside.prefix.replies.items _ c.self.inside.prefix.book _ _ c.decide_one.result c.self.invariant within
    c.decide_one.ensures.count c.decide_one.ensures.book c.decide_one.ensures.replies c.decide_one.ensures.kept

pub returns-clause-local : goal.returns-clause-local
returns-clause-local g c =
    let p : Progress = record { opening = c.self.inside.opening.now; frames = c.self.inside.frames.now; count = c.self.inside.prefix.count } in
    let within : p.count < length p.frames = subst (λ (x : Progress). x.count < length x.frames) (sym c.self.view_is) c.requires in
    subst
    (λ (x : Progress). OnOk c.decide_one.result (IfSome (slice_get x.frames x.count) (λ (frame : Frame). IsLocal frame c.decide_one.new.reads c.decide_one.new.writes (reply_of (book_of x) frame))))
    c.self.view_is
    (next_local p c.index-self-index.result _ _ _ _ c.decide_one.result c.self.invariant within c.decide_one.ensures.local)
