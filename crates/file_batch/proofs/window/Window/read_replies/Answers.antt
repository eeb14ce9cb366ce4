use Rattle.std.proofs.Common.{rules, ◌≡◌, ℕ, ◌+◌, ◌++◌, ◌∷◌, [], arith, refl, subst}
use Rattle.std.proofs.lemmas.Result.{err_from_is_err_and}
use Rattle.file_batch.specs.Window.{ahead}
use Rattle.file_laws.specs.Replies.{IsReplyText, RepliesAt}
use Rattle.file_batch.proofs.ReadBodies.{goes_on, one, starts}
use Rattle.file_batch.proofs.ReadReplies.{fails_in_body, fails_in_text}
use Rattle.file_batch.proofs.window.Window.read_replies.Goals as goal

pub loop-index-init : goal.loop-index-init
loop-index-init g c = record {
  device = search rules;
  within = omega arith;
  count = search rules;
  replies = λ known. rw c.new-replies.ensures.items (starts IsReplyText (ahead c.args.self.now (g.R.Source.remaining c.args.source.now)));
}

pub returns-in_err-read_body-clause-gives : goal.returns-in_err-read_body-clause-gives
returns-in_err-read_body-clause-gives g c = λ known.
    let p = err_from_is_err_and c.from_residual.result c.from_residual.ensures.1 in
    rw (p.1, p.2) (fails_in_body c.args.from c.args.count c.loop-index.index (ahead c.args.self.now (g.R.Source.remaining c.args.source.now)) c.loop-index.replies.items
    (ahead c.loop-index.self (g.R.Source.remaining c.loop-index.source)) c.in_err-read_body.field-0.0
    c.loop-index-test.true (c.loop-index.invariant.replies known) (c.in_err-read_body.ensures.gives (c.loop-index.invariant.device.known known)))

pub returns-in_default-clause-gives : goal.returns-in_default-clause-gives
returns-in_default-clause-gives g c = λ known of_bytes.
    let after = c.read_body.new.self in
    fails_in_text c.args.from c.args.count c.loop-index.index (ahead c.args.self.now (g.R.Source.remaining c.args.source.now)) c.loop-index.replies.items
    (ahead c.loop-index.self (g.R.Source.remaining c.loop-index.source)) after.field.items (ahead after (g.R.Source.remaining c.read_body.new.source)) _
    c.loop-index-test.true (c.loop-index.invariant.replies known) (c.in_ok-read_body.ensures.gives (c.loop-index.invariant.device.known known))
    (rw c.deref.ensures.value at c.in_default.ensures.none) refl

pub loop-index-preserved : goal.loop-index-preserved
loop-index-preserved g c =
    let after = c.read_body.new.self in
    let added : c.push.new.self.items ≡ c.loop-index.replies.items ++ c.in-Some.reply ∷ [] = c.in_ok-push.ensures.items in
    record {
      device = search rules;
      within = omega (arith, c.loop-index-test.true);
      count = grind arith;
      replies = λ known.
          let mid = ahead c.loop-index.self (g.R.Source.remaining c.loop-index.source) in
          let left = ahead after (g.R.Source.remaining c.read_body.new.source) in
          rw added (goes_on IsReplyText c.loop-index.index 1 (c.loop-index.index + 1) _ mid left c.loop-index.replies.items (c.in-Some.reply ∷ []) refl
          (c.loop-index.invariant.replies known) (one IsReplyText mid after.field.items left c.in-Some.reply
          (c.in_ok-read_body.ensures.gives (c.loop-index.invariant.device.known known)) (rw c.deref.ensures.value at c.in-Some.ensures.found)));
    }

pub returns-clause-gives : goal.returns-clause-gives
returns-clause-gives g c = λ known.
    let same : c.loop-index.index ≡ c.args.count = omega (arith, c.loop-index-test.false, c.loop-index.invariant.within) in
    subst (λ (n : ℕ). RepliesAt n (ahead c.args.self.now (g.R.Source.remaining c.args.source.now)) c.loop-index.replies.items
    (ahead c.loop-index.self (g.R.Source.remaining c.loop-index.source))) same
    (c.loop-index.invariant.replies known)
