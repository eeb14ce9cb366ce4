-- On a book that can reverse, no reversal is refused for what may come later, so a batch that is sent once more writes nothing.
use Rattle.std.proofs.Common.{◌≡◌, Bool, true, false, if◌then◌else◌, not, List, [], ◌∷◌, ◌++◌, Option, Some, None, is_some, is_none, refl, sym, ap}
use Rattle.std.proofs.lemmas.Bool.{false≢true}
use Rattle.std.specs.FinMap as map
use Rattle.std.specs.List.{AllByRecursion}
use Rattle.issuer_words.specs.Words.{Frame, Identity, KeptOriginal, Message, OriginalRow, Payment, Reversal, RowKey, Rows, is_named, is_wrong_part, original_in, payment_of_outcome, reversal_of_outcome, rows_after_one}
use Rattle.issuer_laws.proofs.Again.{lasting_conditions, passing_conditions, requests_none_for_now, reversals_write_nothing_again}
use Rattle.issuer_laws.specs.Again.{is_for_now, NoneForNow}
use Rattle.issuer_laws.specs.Messages.{reversal_frame}
use Rattle.issuer_laws.specs.Rules.{Conditions, first_of, has, is_mark, is_kept_so, reversal_facts_of, decided_by}
use Rattle.issuer_laws.specs.declared.decision_rule.DecisionRule.{DecisionRule}
use Rattle.book_changes.proofs.Reversing.{none_holds, conditions_fail, can_still}
use Rattle.book_changes.specs.Reversible.{CanReverse, IsRightReversal, RefusesNoneForNow, IsAgainNothing}

-- a condition holds whose rule is for good, or the rest decides
or_rest : (front rest : Conditions) → AllByRecursion (λ c. is_for_now c.0 ≡ false) front → (AllByRecursion (λ c. c.1 ≡ false) front → is_for_now (first_of rest DecisionRule.GivenBack) ≡ false) → is_for_now (first_of (front ++ rest) DecisionRule.GivenBack) ≡ false
or_rest [] rest good next = next tt
or_rest (c ∷ front) rest good next =
    elim c.1 as (λ b. c.1 ≡ b → is_for_now (if b then c.0 else first_of (front ++ rest) DecisionRule.GivenBack) ≡ false) [
      | true ↦ λ e. good.0
      | false ↦ λ e. or_rest front rest good.1 (λ fail. next (e, fail))
    ] refl

never : {A : Type 0} → true ≡ false → A
never e = absurd (false≢true (sym e))

not_false : (b : Bool) → not b ≡ false → b ≡ true
not_false true e = refl
not_false false e = never e

no_reversal : (o : Option Identity) → is_some o ≡ false → o ≡ None
no_reversal None e = refl
no_reversal (Some by) e = never e

a_payment : (o : Option Payment) → is_none o ≡ false → (p : Payment) × (o ≡ Some p)
a_payment None e = never e
a_payment (Some p) e = (p, refl)

-- where none of the lasting conditions holds, the reversal is a right one
right : (rows : Rows) (v : Reversal) (row : Option OriginalRow) → original_in (map.get rows (RowKey.Original v.original.identity)) ≡ row → is_none row ≡ false → has is_mark row ≡ false
    → has (is_kept_so (λ (k : KeptOriginal). not (is_named v k))) row ≡ false → has (is_kept_so (λ (k : KeptOriginal). is_some (reversal_of_outcome k.outcome))) row ≡ false
    → has (is_kept_so (λ (k : KeptOriginal). is_none (payment_of_outcome k.outcome))) row ≡ false
    → has (is_kept_so (λ (k : KeptOriginal). is_wrong_part v.scope v.transaction.amount k.amount)) row ≡ false → IsRightReversal rows v
right rows v None e there mark named unreversed posted part = never there
right rows v (Some (OriginalRow.Ahead m)) e there mark named unreversed posted part = never mark
right rows v (Some (OriginalRow.Kept k)) e there mark named unreversed posted part =
    let payment = a_payment (payment_of_outcome k.outcome) posted in
    record {
      kept = k;
      stands = e;
      payment = payment.0;
      posted = payment.1;
      unreversed = no_reversal (reversal_of_outcome k.outcome) unreversed;
      named = not_false (is_named v k) named;
      part = part;
    }

reversal_for_good : (rows : Rows) → CanReverse rows → (v : Reversal) → is_for_now (decided_by rows (reversal_frame v)) ≡ false
reversal_for_good rows h v =
    or_rest (lasting_conditions v (reversal_facts_of rows v)) (passing_conditions _ _ _ _) (refl, (refl, (refl, (refl, (refl, (refl, (refl, tt)))))))
    (λ fail. let all = conditions_fail rows h v (right rows v _ refl fail.0 fail.1.0 fail.1.1.0 fail.1.1.1.1.0 fail.1.1.1.1.1.0 fail.1.1.1.1.1.1.0) in
    ap is_for_now (none_holds (passing_conditions _ _ _ _) DecisionRule.GivenBack all.1.1.1.1.1.1.1))

for_good : (rows : Rows) → CanReverse rows → (frame : Frame) → is_for_now (decided_by rows frame) ≡ false
for_good rows h (Frame.Good (Message.Request r)) = requests_none_for_now rows (Frame.Good (Message.Request r)) tt
for_good rows h (Frame.Good (Message.Advice a)) = requests_none_for_now rows (Frame.Good (Message.Advice a)) tt
for_good rows h (Frame.Good (Message.Reversal v)) = reversal_for_good rows h v
for_good rows h (Frame.Bad fault) = refl

none_for_now : (frames : List Frame) (rows : Rows) → CanReverse rows → NoneForNow rows frames
none_for_now [] rows h = tt
none_for_now (frame ∷ frames) rows h = (for_good rows h frame, none_for_now frames (rows_after_one rows frame) (can_still (frame ∷ []) rows h))

pub refuses_none : (rows : Rows) (frames : List Frame) → RefusesNoneForNow rows frames
refuses_none rows frames h = none_for_now frames rows h

pub again_nothing : (rows : Rows) (frames : List Frame) → IsAgainNothing rows frames
again_nothing rows frames h = reversals_write_nothing_again rows frames (none_for_now frames rows h)
