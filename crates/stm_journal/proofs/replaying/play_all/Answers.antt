use Rattle.std.proofs.Common.{◌≡◌, refl, Result, ◌∙◌, ap, sym, subst, ℕ, ◌+◌, inl, Err, List, length, take, arith}
use Rattle.std.proofs.Math.Seq.{take-length}
use Rattle.stm_journal_text.specs.Words.{EntryStep, IsFirstUnlogged, Plays}
use Rattle.stm_journal_text.specs.declared.entry.Entry.{Entry}
use Rattle.stm_journal_text.specs.declared.replay_fault.ReplayFault.{ReplayFault}
use Rattle.stm_journal_text.specs.declared.replay_fault.ReplayFault.TheVariants.{Unlogged}
use Rattle.stm_journal_text.proofs.First.{all_decided, one_first}
use Rattle.stm_journal_text.proofs.Playing.{Plays-more, EntryStep-frames, first_unlogged}
use Rattle.stm_journal.proofs.replaying.play_all.Goals as goal

same_fault : (x : Result (Unit {0}) ReplayFault) (m n : ℕ) → x ≡ Err (Unlogged m) → x ≡ Err (Unlogged n) → m ≡ n
same_fault x m n e f = cc

pub returns-then-not-branch-clause-unlogged : goal.returns-then-not-branch-clause-unlogged
returns-then-not-branch-clause-unlogged c n e =
    let mine = first_unlogged c.args.core.now c.args.entries.now c.loop-index.index c.index-entries-index.result c.loop-index.core
    c.loop-index-test.true c.index-entries-index.is c.loop-index.invariant.plays (c.in_ok-play_entry.ensures.unlogged c.if-not-branch.true) in
    subst (IsFirstUnlogged c.args.core.now c.args.entries.now) (same_fault (Err (Unlogged (c.loop-index.index + 1))) (c.loop-index.index + 1) n refl e) mine

pub returns-then-not-branch-clause-exact : goal.returns-then-not-branch-clause-exact
returns-then-not-branch-clause-exact c n first =
    let mine = first_unlogged c.args.core.now c.args.entries.now c.loop-index.index c.index-entries-index.result c.loop-index.core
    c.loop-index-test.true c.index-entries-index.is c.loop-index.invariant.plays (c.in_ok-play_entry.ensures.unlogged c.if-not-branch.true) in
    inl (ap (λ (k : ℕ). Err (Unlogged k)) (one_first c.args.core.now c.args.entries.now (c.loop-index.index + 1) n mine first))

pub returns-clause-exact : goal.returns-clause-exact
returns-clause-exact c n first =
    let end : length c.args.entries.now ≡ c.loop-index.index = omega arith in
    let plays : Plays c.args.core.now c.args.entries.now c.loop-index.core =
    subst (λ (es : List Entry). Plays c.args.core.now es c.loop-index.core)
    (ap (λ (i : ℕ). take i c.args.entries.now) (sym end) ∙ take-length c.args.entries.now) c.loop-index.invariant.plays in
    absurd (all_decided c.args.core.now c.args.entries.now c.loop-index.core n plays first)

pub loop-index-preserved : goal.loop-index-preserved
loop-index-preserved c =
    let step : EntryStep c.loop-index.core c.index-entries-index.result c.play_entry.new.core = c.in_ok-play_entry.ensures.played c.if-not-branch.false in
    record {
      plays = Plays-more c.args.core.now c.args.entries.now c.loop-index.index c.index-entries-index.result c.loop-index.core c.play_entry.new.core
          c.loop-index-test.true c.index-entries-index.is c.loop-index.invariant.plays step;
      bodies = EntryStep-frames c.loop-index.core c.index-entries-index.result c.play_entry.new.core step ∙ c.loop-index.invariant.bodies;
    }
