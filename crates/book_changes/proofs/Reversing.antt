-- On a book whose accounts, days and budgets have what it takes, a right reversal is answered 400.
use Rattle.std.proofs.Common.{◌≡◌, ℕ, ◌+◌, ◌^◌, ◌≤◌, Bool, true, false, if◌then◌else◌, ◌&&◌, ◌||◌, ◌==◌, not, nat_lt, List, [], ◌∷◌, Option, Some, None, is_some, is_none, option_and_then, option_map, refl, sym, ap, ◌∙◌, subst, arith}
use Rattle.std.proofs.lemmas.Bool.{false≢true, and_right, and_left}
use Rattle.std.proofs.lemmas.Bool.Decides.{nat_tests}
use Rattle.std.specs.FinMap as map
use Rattle.std.specs.List.{AllByRecursion, sum_by}
use Rattle.issuer_words.specs.Words.{Frame, Funds, Identity, KeptOriginal, OriginalKind, OriginalOutcome, OriginalRow, Payer, Payment, ReplyBody, Reversal, ReversalScope, RowKey, RowVal, Rows, VelocityRow, Writes, account_in, account_paid, available_in, balance_of, budget_in, budget_paid, day_key, day_of, given_back, greatest_balance, identity_of, is_account, is_budget, is_from_account, is_from_budget, is_named, is_same_identity, is_same_kind, is_wrong_part, kept_in, kind_of_outcome, left_in, original_in, payment_of_outcome, prefix_of, reply_of, reversal_of_outcome, rows_after, spent_in, stay_if, stay_of, stay_of_payment, stays, takes_approval, text_eq, velocity_in}
use Rattle.issuer_laws.proofs.Covered.{open_before, back_within, stays_covered}
use Rattle.issuer_laws.proofs.Keys.{same_text}
use Rattle.issuer_laws.proofs.ReversalRules.{reversal_decided}
use Rattle.issuer_laws.proofs.Sums.{part, sum-insert}
use Rattle.issuer_laws.specs.Covered.{is_open_request, open_in, AreDaysCovered}
use Rattle.issuer_laws.specs.Messages.{reversal_frame, HasAction}
use Rattle.issuer_laws.specs.Rules.{Conditions, first_of, has, row_of_payer, row_that_paid, day_of_row, reversal_facts_of, is_mark, is_kept_so, is_request, is_reversed_by, gives_back, reversal_conditions, ReversalEnds}
use Rattle.issuer_laws.specs.declared.decision_rule.DecisionRule.{DecisionRule}
use Rattle.book_laws.specs.CheckBook.{has_payer, is_backed}
use Rattle.book_changes.proofs.Reversible.{budgets_stay}
use Rattle.book_changes.proofs.Sound.{is_kept, kept_backed, stays_sound}
use Rattle.book_changes.specs.Reversible.{has_budget, is_budget_there, CanReverse, IsRightReversal, IsDone}
use Rattle.issuer_laws.proofs.Balanced.{no_settlement}
use Rattle.issuer_laws.proofs.Again.{gives_400}

-- where no condition holds, the last rule decides
pub none_holds : (cs : Conditions) (last : DecisionRule) → AllByRecursion (λ c. c.1 ≡ false) cs → first_of cs last ≡ last
none_holds [] last h = refl
none_holds (c ∷ cs) last h = ap (λ (b : Bool). if◌then◌else◌ {A = DecisionRule} b c.0 (first_of cs last)) h.0 ∙ none_holds cs last h.1

-- a row counts no more than all rows do
row_within : (f : RowKey × RowVal → ℕ) (rows : Rows) (k : RowKey) (nothing : RowVal) → f (k, nothing) ≡ 0 → part f k (map.get rows k) ≤ sum_by f (map.entries rows)
row_within f rows k nothing e = let one = sum-insert f rows k nothing in omega (arith, one, e)

no_day : VelocityRow
no_day = record { count = 0; sum = 0 }

-- ---- what paid

all_stays : (k : KeptOriginal) (o : OriginalOutcome) (payment : Payment) → payment_of_outcome o ≡ Some payment → reversal_of_outcome o ≡ None → stay_of_payment k.amount (payment_of_outcome o) ≡ k.amount
all_stays k (OriginalOutcome.Approved code paid) payment p r = no_settlement k.amount paid.settlement r
all_stays k (OriginalOutcome.Declined action other) payment p r = absurd (cc)
all_stays k (OriginalOutcome.Accepted paid) payment p r = no_settlement k.amount paid.settlement r
all_stays k (OriginalOutcome.Acknowledged action other) payment p r = absurd (cc)

-- what paid has a row, and room for the whole amount
record HasPaid (rows : Rows) (k : KeptOriginal) (payer : Payer) : Type 0 where
  paid : Funds
  found : row_of_payer (map.get rows) k.card payer ≡ Some paid
  room : balance_of paid + k.amount ≤ 10 ^ 15

its_stay : (rows : Rows) (is_one : KeptOriginal → Bool) (identity : Identity) (k : KeptOriginal) → map.get rows (RowKey.Original identity) ≡ Some (RowVal.Kept k) → is_one k ≡ true → stay_of k ≤ stays is_one rows
its_stay rows is_one identity k at own =
    let f = λ (row : RowKey × RowVal). stay_if is_one (kept_in row.0 row.1) in
    let within = row_within (λ (row : RowKey × RowVal). stay_if is_one (kept_in row.0 row.1)) rows (RowKey.Original identity) (RowVal.Velocity no_day) refl in
    let here = ap (part (λ (row : RowKey × RowVal). stay_if is_one (kept_in row.0 row.1)) (RowKey.Original identity)) at ∙ ap (λ (b : Bool). if◌then◌else◌ {A = ℕ} b (stay_of k) 0) own in
    omega (arith, within, here)

has_paid : (rows : Rows) → CanReverse rows → (identity : Identity) (k : KeptOriginal) (payment : Payment) (payer : Payer) → original_in (map.get rows (RowKey.Original identity)) ≡ Some (OriginalRow.Kept k) → payment_of_outcome k.outcome ≡ Some payment → payment.payer ≡ payer → reversal_of_outcome k.outcome ≡ None → HasPaid rows k payer
has_paid rows h identity k payment (Payer.Account id) stands posted e unreversed =
    let there = sym (ap (is_backed rows) posted) ∙ kept_backed rows h.sound identity k stands in
    let account = sym (ap (has_payer rows) e) ∙ there in
    let from = ap (account_paid id) posted ∙ ap (λ (p : Payer). is_account id p) e ∙ same_text id.0 in
    let stay = its_stay rows (is_from_account id) identity k (is_kept (map.get rows (RowKey.Original identity)) k stands) from in
    let whole = all_stays k k.outcome payment posted unreversed in
    elim (account_in (map.get rows (RowKey.Account id))) as (λ row. account_in (map.get rows (RowKey.Account id)) ≡ row → HasPaid rows k (Payer.Account id)) [
      | None ↦ λ gone. absurd (false≢true (sym (ap is_some gone) ∙ account))
      | Some row ↦ λ found.
          let available = ap available_in found in
          let backing = h.sound.backings.0 id in
          record { paid = Funds.Account id row; found = ap (option_map (Funds.Account id)) found; room = omega (arith, stay, whole, available, backing) }
    ] refl
has_paid rows h identity k payment Payer.Budget stands posted e unreversed =
    let there = sym (ap (is_budget_there rows k.card) posted) ∙ h.budgets identity k stands in
    let budget = sym (ap (has_budget rows k.card) e) ∙ there in
    let from = ap (λ (p : Option Payment). budget_paid p && text_eq (prefix_of k.card).0 (prefix_of k.card).0) posted ∙ ap (λ (p : Payer). is_budget p && text_eq (prefix_of k.card).0 (prefix_of k.card).0) e ∙ same_text (prefix_of k.card).0 in
    let stay = its_stay rows (is_from_budget (prefix_of k.card)) identity k (is_kept (map.get rows (RowKey.Original identity)) k stands) from in
    let whole = all_stays k k.outcome payment posted unreversed in
    elim (budget_in (map.get rows (RowKey.Budget (prefix_of k.card)))) as (λ row. budget_in (map.get rows (RowKey.Budget (prefix_of k.card))) ≡ row → HasPaid rows k Payer.Budget) [
      | None ↦ λ gone. absurd (false≢true (sym (ap is_some gone) ∙ budget))
      | Some row ↦ λ found.
          let left = ap left_in found in
          let backing = h.sound.backings.1 (prefix_of k.card) in
          record { paid = Funds.Budget (prefix_of k.card) row; found = ap (option_map (Funds.Budget (prefix_of k.card))) found; room = omega (arith, stay, whole, left, backing) }
    ] refl

-- ---- the day

-- the day of a request that can be reversed has a row, an approval and its amount
record HasSpent (rows : Rows) (v : Reversal) (k : KeptOriginal) : Type 0 where
  day : VelocityRow
  found : velocity_in (map.get rows (day_key v k)) ≡ Some day
  count : 1 ≤ day.count
  sum : k.amount ≤ day.sum

counted_at : (rows : Rows) (weight : KeptOriginal → ℕ) (identity : Identity) (k : KeptOriginal) → map.get rows (RowKey.Original identity) ≡ Some (RowVal.Kept k) → is_open_request k.outcome ≡ true → weight k ≤ sum_by (open_in weight k.card (day_of identity.stamp)) (map.entries rows)
counted_at rows weight identity k at open_now =
    let within = row_within (open_in weight k.card (day_of identity.stamp)) rows (RowKey.Original identity) (RowVal.Velocity no_day) refl in
    let matches = ap (λ (b : Bool). b && (text_eq (day_of identity.stamp) (day_of identity.stamp) && is_open_request k.outcome)) (same_text k.card.0) ∙ ap (λ (b : Bool). b && is_open_request k.outcome) (same_text (day_of identity.stamp)) ∙ open_now in
    let here = ap (part (open_in weight k.card (day_of identity.stamp)) (RowKey.Original identity)) at ∙ ap (λ (b : Bool). if◌then◌else◌ {A = ℕ} b (weight k) 0) matches in
    omega (arith, within, here)

has_spent : (rows : Rows) → AreDaysCovered rows → (v : Reversal) (k : KeptOriginal) → map.get rows (RowKey.Original v.original.identity) ≡ Some (RowVal.Kept k) → is_open_request k.outcome ≡ true → HasSpent rows v k
has_spent rows days v k at open_now =
    let day = day_of v.original.identity.stamp in
    let c = days k.card (day_of v.original.identity.stamp) in
    let one = counted_at rows (λ x. 1) v.original.identity k at open_now in
    let money = counted_at rows (λ x. x.amount) v.original.identity k at open_now in
    elim (velocity_in (map.get rows (day_key v k))) as (λ row. velocity_in (map.get rows (day_key v k)) ≡ row → HasSpent rows v k) [
      | None ↦ λ gone. absurd (let none = ap (λ (o : Option VelocityRow). (spent_in o).count) gone in omega (arith, c.count, one, none))
      | Some row ↦ λ found.
          let counts = ap (λ (o : Option VelocityRow). (spent_in o).count) found in
          let sums = ap (λ (o : Option VelocityRow). (spent_in o).sum) found in
          record { day = row; found = found; count = omega (arith, c.count, one, counts); sum = omega (arith, c.sum, money, sums) }
    ] refl

-- ---- no condition of the table holds but the last

not_short : (s : ReversalScope) (count sum given : ℕ) → 1 ≤ count → given ≤ sum → ((takes_approval s && (count == 0)) || nat_lt sum given) ≡ false
not_short ReversalScope.Full count sum given c s = grind (arith, nat_tests)
not_short (ReversalScope.Partial claimed) count sum given c s = grind (arith, nat_tests)

not_over : (balance amount given : ℕ) → balance + amount ≤ 10 ^ 15 → given ≤ amount → nat_lt greatest_balance (balance + given) ≡ false
not_over balance amount given h g = let enough : balance + given ≤ 1000000000000000 = omega (arith, h, g) in grind (arith, nat_tests)

-- the conditions on a day, by the kind of the original
day_conditions : (rows : Rows) → AreDaysCovered rows → (v : Reversal) (k : KeptOriginal) (payment : Payment) → map.get rows (RowKey.Original v.original.identity) ≡ Some (RowVal.Kept k) → payment_of_outcome k.outcome ≡ Some payment → reversal_of_outcome k.outcome ≡ None → (kind : OriginalKind) → kind_of_outcome k.outcome ≡ kind → ((is_request k && is_none (velocity_in (map.get rows (day_key v k)))) ≡ false) × ((is_request k && has (λ (d : VelocityRow). (takes_approval v.scope && (d.count == 0)) || nat_lt d.sum (given_back v k)) (velocity_in (map.get rows (day_key v k)))) ≡ false)
day_conditions rows days v k payment at posted unreversed OriginalKind.Advice e =
    (and_left (is_request k) _ (ap (λ (o : OriginalKind). is_same_kind o OriginalKind.Request) e), and_left (is_request k) _ (ap (λ (o : OriginalKind). is_same_kind o OriginalKind.Request) e))
day_conditions rows days v k payment at posted unreversed OriginalKind.Request e =
    let spent = has_spent rows days v k at (open_before k.outcome payment e posted unreversed) in (
      and_right (is_request k) _ (ap is_none spent.found),
      and_right (is_request k) _ (ap (has (λ (d : VelocityRow). (takes_approval v.scope && (d.count == 0)) || nat_lt d.sum (given_back v k))) spent.found
          ∙ not_short v.scope spent.day.count spent.day.sum (given_back v k) spent.count (omega (arith, spent.sum, back_within v k))),
    )

pub conditions_fail : (rows : Rows) → CanReverse rows → (v : Reversal) → IsRightReversal rows v → AllByRecursion (λ c. c.1 ≡ false) (reversal_conditions v (reversal_facts_of rows v))
conditions_fail rows h v r =
    let k = r.kept in
    let at = is_kept (map.get rows (RowKey.Original v.original.identity)) r.kept r.stands in
    let paid = has_paid rows h v.original.identity r.kept r.payment r.payment.payer r.stands r.posted refl r.unreversed in
    let by_row : row_that_paid (map.get rows) (original_in (map.get rows (RowKey.Original v.original.identity))) ≡ Some paid.paid = ap (row_that_paid (map.get rows)) r.stands ∙ ap (option_and_then (λ (p : Payment). row_of_payer (map.get rows) r.kept.card p.payer)) r.posted ∙ paid.found in
    let day_is : day_of_row (map.get rows) v (original_in (map.get rows (RowKey.Original v.original.identity))) ≡ velocity_in (map.get rows (day_key v r.kept)) = ap (day_of_row (map.get rows) v) r.stands in
    let back_is : gives_back v (original_in (map.get rows (RowKey.Original v.original.identity))) ≡ given_back v r.kept = ap (gives_back v) r.stands in
    let days = day_conditions rows h.days v r.kept r.payment at r.posted r.unreversed (kind_of_outcome r.kept.outcome) refl in (
      ap is_none r.stands,
      (
        ap (has is_mark) r.stands,
        (
          ap (has (is_kept_so (λ (x : KeptOriginal). not (is_named v x)))) r.stands ∙ ap not r.named,
          (
            and_left _ v.repeat (ap (has (is_kept_so (is_reversed_by v))) r.stands ∙ ap (has (λ (by : Identity). is_same_identity by (identity_of v.transaction))) r.unreversed),
            (
              ap (has (is_kept_so (λ (x : KeptOriginal). is_some (reversal_of_outcome x.outcome)))) r.stands ∙ ap is_some r.unreversed,
              (
                ap (has (is_kept_so (λ (x : KeptOriginal). is_none (payment_of_outcome x.outcome)))) r.stands ∙ ap is_none r.posted,
                (
                  ap (has (is_kept_so (λ (x : KeptOriginal). is_wrong_part v.scope v.transaction.amount x.amount))) r.stands ∙ r.part,
                  (
                    ap is_none by_row,
                    (
                      ap (λ (o : Option OriginalRow). has (is_kept_so is_request) o && is_none (day_of_row (map.get rows) v o)) r.stands ∙ days.0,
                      (
                        ap (has (λ (p : Funds). nat_lt greatest_balance (balance_of p + gives_back v (original_in (map.get rows (RowKey.Original v.original.identity)))))) by_row
                            ∙ ap (λ n. nat_lt greatest_balance (balance_of paid.paid + n)) back_is
                            ∙ not_over (balance_of paid.paid) r.kept.amount (given_back v r.kept) paid.room (back_within v r.kept),
                        (
                          ap (λ (o : Option OriginalRow). has (is_kept_so is_request) o && has (λ (d : VelocityRow). (takes_approval v.scope && (d.count == 0)) || nat_lt d.sum (gives_back v o)) (day_of_row (map.get rows) v o)) r.stands ∙ days.1,
                          tt,
                        ),
                      ),
                    ),
                  ),
                ),
              ),
            ),
          ),
        ),
      ),
    )

reversal_done : (rows : Rows) (v : Reversal) → CanReverse rows → IsRightReversal rows v → HasAction 400 (reply_of rows (reversal_frame v))
reversal_done rows v h r =
    let decided = reversal_decided rows v in
    let rule = none_holds (reversal_conditions v (reversal_facts_of rows v)) DecisionRule.GivenBack (conditions_fail rows h v r) in
    let ends = subst (λ (x : DecisionRule). ReversalEnds v (reversal_facts_of rows v) x decided.0) rule decided.1 in
    subst (HasAction 400) (sym (ap (λ (p : ReplyBody × Writes). p.0) decided.2)) (gives_400 v (kind_of_outcome ends.0.outcome) ends.0 ends.1 _ decided.0 (map.get rows) ends.4)

pub can_still : (frames : List Frame) (rows : Rows) → CanReverse rows → CanReverse (rows_after rows frames)
can_still frames rows h = record { sound = stays_sound frames rows h.sound; days = stays_covered frames rows h.days; budgets = budgets_stay frames rows h.budgets }

-- whatever was decided before it
pub is_done : (rows : Rows) (before : List Frame) (v : Reversal) → IsDone rows before v
is_done rows before v h r = reversal_done (rows_after rows before) v (can_still before rows h) r
