use Rattle.std.proofs.Common.{◌≡◌, Result, Err, inl, inr, List, length, refl, sym, ap, subst, ◌∙◌}
use Rattle.stm_journal_text.specs.declared.replay_fault.ReplayFault.{ReplayFault}
use Rattle.issuer_words.specs.Words.{ReplyBody, Rows, rows_after}
use Rattle.app_audit.specs.Finding.{Finds}
use Rattle.app_audit.proofs.Counts.{few_replies}
use Rattle.app_audit.proofs.Played.{all_replies, all_rows}
use Rattle.app_audit.proofs.auditing_journals.audit_journal.Goals as goal

same_fault : {X : Type 0} (x : Result X ReplayFault) (a b : ReplayFault) → x ≡ Err a → x ≡ Err b → a ≡ b
same_fault x a b e f = cc

pub returns-in-Err-clause-exact : goal.returns-in-Err-clause-exact
returns-in-Err-clause-exact c n first =
    elim (c.in-Err.ensures.exact n first) [
      | inl e ↦ inl (ap (λ (f : ReplayFault). Err f) (same_fault _ _ _ refl e))
      | inr e ↦ inr (ap (λ (f : ReplayFault). Err f) (same_fault _ _ _ refl e))
    ]

pub returns-then-prefix-frames-clause-finds : goal.returns-then-prefix-frames-clause-finds
returns-then-prefix-frames-clause-finds c = record {
  core = c.in-Ok.core;
  plays = c.in-Ok.ensures.played;
  all = λ all. absurd (c.if-prefix-frames.true (c.in_ok-prefix.ensures.count ∙ all));
  fewer = λ _. refl;
}

pub returns-then-prefix-frames-clause-exact : goal.returns-then-prefix-frames-clause-exact
returns-then-prefix-frames-clause-exact c n first = elim (c.in-Ok.ensures.exact n first) [ inl e ↦ absurd (cc e) | inr e ↦ absurd (cc e) ]

pub compared-requires : goal.compared-requires
compared-requires c =
    few_replies c.in_ok-prefix.prefix.replies.items c.args.book.now c.args.frames.now c.requires
    (c.in_ok-prefix.ensures.replies ∙ all_replies c.args.book.now c.args.frames.now c.args.entries.now c.in-Ok.core c.in-Ok.ensures.played (sym c.in_ok-prefix.ensures.count ∙ c.if-prefix-frames.false))

pub returns-in-Ok-compared-clause-finds : goal.returns-in-Ok-compared-clause-finds
returns-in-Ok-compared-clause-finds c =
    let count : c.in-Ok.core.state.board.committed ≡ length c.args.frames.now = sym c.in_ok-prefix.ensures.count ∙ c.if-prefix-frames.false in
    let replies = c.in_ok-prefix.ensures.replies ∙ all_replies c.args.book.now c.args.frames.now c.args.entries.now c.in-Ok.core c.in-Ok.ensures.played count in
    let book = c.in_ok-prefix.ensures.book ∙ all_rows c.args.book.now c.args.frames.now c.args.entries.now c.in-Ok.core c.in-Ok.ensures.played count in
    record {
      core = c.in-Ok.core;
      plays = c.in-Ok.ensures.played;
      all = λ _.
          subst (λ (rs : List ReplyBody). Finds c.args.replies.now c.args.after.now rs (rows_after c.args.book.now c.args.frames.now) c.in-Ok-compared.found) replies
          (subst (λ (rows : Rows). Finds c.args.replies.now c.args.after.now c.in_ok-prefix.prefix.replies.items rows c.in-Ok-compared.found) book c.in-Ok-compared.ensures);
      fewer = λ fewer. absurd (fewer count);
    }

pub returns-in-Ok-compared-clause-exact : goal.returns-in-Ok-compared-clause-exact
returns-in-Ok-compared-clause-exact c n first = elim (c.in-Ok.ensures.exact n first) [ inl e ↦ absurd (cc e) | inr e ↦ absurd (cc e) ]
