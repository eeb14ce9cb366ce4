use Rattle.std.proofs.Common.{◌≡◌, Result, Err, inl, inr, refl, sym, ap, subst}
use Rattle.stm_journal_text.specs.Words.{IsFirstUnlogged, Plays}
use Rattle.stm_journal_text.specs.declared.replay_fault.ReplayFault.{ReplayFault}
use Rattle.stm_core_laws.specs.Play.{Play}
use Rattle.stm_journal.proofs.replaying.replay.Goals as goal

same_fault : {X : Type 0} (x : Result X ReplayFault) (a b : ReplayFault) → x ≡ Err a → x ≡ Err b → a ≡ b
same_fault x a b e f = cc

pub returns-in-Ok-play_all-clause-played : goal.returns-in-Ok-play_all-clause-played
returns-in-Ok-play_all-clause-played c = subst (λ (p : Play). Plays p c.args.entries.now c.play_all.new.core) c.in-Ok.ensures c.in-Ok-play_all.ensures.played

pub returns-in-Ok-play_all-clause-exact : goal.returns-in-Ok-play_all-clause-exact
returns-in-Ok-play_all-clause-exact c n first =
    elim (c.in-Ok-play_all.ensures.exact n (subst (λ (p : Play). IsFirstUnlogged p c.args.entries.now n) (sym c.in-Ok.ensures) first)) [ inl e ↦ absurd (cc e) | inr e ↦ absurd (cc e) ]

pub returns-in-Err-play_all-clause-unlogged : goal.returns-in-Err-play_all-clause-unlogged
returns-in-Err-play_all-clause-unlogged c n e =
    subst (λ (p : Play). IsFirstUnlogged p c.args.entries.now n) c.in-Ok.ensures (c.in-Err-play_all.ensures.unlogged n (ap (λ (f : ReplayFault). Err f) (same_fault _ _ _ refl e)))

pub returns-in-Err-play_all-clause-exact : goal.returns-in-Err-play_all-clause-exact
returns-in-Err-play_all-clause-exact c n first =
    elim (c.in-Err-play_all.ensures.exact n (subst (λ (p : Play). IsFirstUnlogged p c.args.entries.now n) (sym c.in-Ok.ensures) first)) [
      | inl e ↦ inl (ap (λ (f : ReplayFault). Err f) (same_fault _ _ _ refl e))
      | inr e ↦ inr (ap (λ (f : ReplayFault). Err f) (same_fault _ _ _ refl e))
    ]

pub returns-in-Err-play_all-clause-lines : goal.returns-in-Err-play_all-clause-lines
returns-in-Err-play_all-clause-lines c n e = c.in-Err-play_all.ensures.lines n (ap (λ (f : ReplayFault). Err f) (same_fault _ _ _ refl e))
