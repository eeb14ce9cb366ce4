-- Each day keeps what reversals of its requests may take from it.
use Rattle.std.proofs.Common.{◌≡◌, ◌≢◌, ℕ, ◌+◌, ◌-◌, ◌≤◌, Bool, true, false, ◌&&◌, ◌==◌, not, if◌then◌else◌, List, [], ◌∷◌, ◌++◌, Option, Some, None, is_none, option_map, IsTrue, inl, inr, refl, sym, ap, ◌∙◌, subst, arith}
use Rattle.std.proofs.lemmas.Bool.{and_parts, and_right}
use Rattle.std.specs.FinMap as map
use Rattle.std.specs.List.{sum_by}
use Rattle.issuer_words.specs.Words.{Advice, Frame, Identity, KeptOriginal, Message, OriginalKind, OriginalOutcome, OriginalRow, Pan, Payment, Plan, ReplyBody, Request, Reversal, ReversalScope, RowKey, RowVal, Rows, Settlement, VelocityRow, Writes, advice_on_original, carried_out, count_left, day_of, decision, given_back, identity_of, is_marked, is_of_same, is_same_card, kept_of_advice, kept_of_request, kind_of, kind_of_outcome, on_original, original_in, overlay, paid_by, payment_of_outcome, refunded, reversal_of_outcome, reversal_plan, reversed_original, rows_after, rows_after_one, settled, settled_outcome, spent_in, spent_less, spent_more, text_eq, velocity_in}
use Rattle.issuer_rows.proofs.PutsOnce.{IsFresh, not_another}
use Rattle.issuer_laws.proofs.AdviceWays as advice
use Rattle.issuer_laws.proofs.Cards.{approved_day_row, leaves_two}
use Rattle.issuer_laws.proofs.Keys.{get-fresh, same_or_other, same_text, texts_same, funds_other}
use Rattle.issuer_laws.proofs.Repeated.{kept_with}
use Rattle.issuer_laws.proofs.RequestWays as request
use Rattle.issuer_laws.proofs.ReversalWays.{SettlesPosted, IsDayFound, day_put, reversal_ways}
use Rattle.issuer_laws.proofs.Sums.{part, sum-insert}
use Rattle.issuer_laws.proofs.Written.{WritesOne, value_there, value_other}
use Rattle.issuer_laws.specs.Covered.{is_open_request, is_open_on, open_in, open_count, open_sum, AreDaysCovered}
use Rattle.issuer_laws.proofs.Balanced.{difference_within}

-- ---- sums over originals

abbrev Weight : Type 0
Weight = KeptOriginal → ℕ

-- rows of other kinds count nothing
counts_none : (weight : Weight) (pan : Pan) (day : List ℕ) (k : RowKey) (v : RowVal) → IsTrue (not (3 == kind_of k)) → open_in weight pan day (k, v) ≡ 0
counts_none weight pan day (RowKey.Card p) v h = refl
counts_none weight pan day (RowKey.Velocity p d) v h = refl
counts_none weight pan day (RowKey.Budget prefix) v h = refl
counts_none weight pan day (RowKey.Original identity) v h = absurd (not_another 3 h)
counts_none weight pan day (RowKey.Account id) v h = refl

part_none : (weight : Weight) (pan : Pan) (day : List ℕ) (k : RowKey) (row : Option RowVal) → IsTrue (not (3 == kind_of k)) → part (open_in weight pan day) k row ≡ 0
part_none weight pan day k None h = refl
part_none weight pan day k (Some v) h = counts_none weight pan day k v h

sum_of : Weight → Pan → List ℕ → Rows → ℕ
sum_of weight pan day rows = sum_by (open_in weight pan day) (map.entries rows)

-- so they change no sum
same_sum : (weight : Weight) (pan : Pan) (day : List ℕ) (rows : Rows) (ws : Writes) → IsFresh 3 ws → sum_of weight pan day (overlay rows ws) ≡ sum_of weight pan day rows
unfolding sum_of
same_sum weight pan day rows [] fresh = refl
same_sum weight pan day rows (w ∷ ws) fresh =
    let one = sum-insert (open_in weight pan day) rows w.0 w.1 in
    let before = part_none weight pan day w.0 (map.get rows w.0) fresh.0 in
    let written = counts_none weight pan day w.0 w.1 fresh.0 in
    let rest = same_sum weight pan day (map.insert rows w.0 w.1) ws fresh.1 in
    omega (arith, one, before, written, rest)

-- what the row of an original counts
abbrev counts : Weight → Pan → List ℕ → Identity → Option OriginalRow → ℕ
counts weight pan day identity None = 0
counts weight pan day identity (Some (OriginalRow.Ahead mark)) = 0
counts weight pan day identity (Some (OriginalRow.Kept k)) = if is_open_on pan day identity k then weight k else 0

part_counts : (weight : Weight) (pan : Pan) (day : List ℕ) (identity : Identity) (row : Option RowVal) → part (open_in weight pan day) (RowKey.Original identity) row ≡ counts weight pan day identity (original_in row)
part_counts weight pan day identity None = refl
part_counts weight pan day identity (Some (RowVal.Card row)) = refl
part_counts weight pan day identity (Some (RowVal.Velocity row)) = refl
part_counts weight pan day identity (Some (RowVal.Budget row)) = refl
part_counts weight pan day identity (Some (RowVal.Kept k)) = refl
part_counts weight pan day identity (Some (RowVal.Ahead mark)) = refl
part_counts weight pan day identity (Some (RowVal.Account row)) = refl

-- a sum behind an original and rows of other kinds
sum_behind : (weight : Weight) (pan : Pan) (day : List ℕ) (rows : Rows) (identity : Identity) (v : RowVal) (rest writes : Writes) → writes ≡ (RowKey.Original identity, v) ∷ rest → IsFresh 3 rest → sum_of weight pan day (overlay rows writes) + counts weight pan day identity (original_in (map.get rows (RowKey.Original identity))) ≡ counts weight pan day identity (original_in (Some v)) + sum_of weight pan day rows
unfolding sum_of
sum_behind weight pan day rows identity v rest writes e fresh =
    let all = ap (λ (w : Writes). sum_of weight pan day (overlay rows w)) e in
    let others = same_sum weight pan day (map.insert rows (RowKey.Original identity) v) rest fresh in
    let one = sum-insert (open_in weight pan day) rows (RowKey.Original identity) v in
    let before = part_counts weight pan day identity (map.get rows (RowKey.Original identity)) in
    let written = part_counts weight pan day identity (Some v) in
    omega (arith, all, others, one, before, written)

-- ---- what one message does to a day

-- nothing of a day changes, and no open request comes or goes
record LeavesDays (rows : Rows) (ws : Writes) : Type 0 where
  days : IsFresh 1 ws
  sums : (weight : Weight) (pan : Pan) (day : List ℕ) → sum_of weight pan day (overlay rows ws) ≡ sum_of weight pan day rows

left_covered : (rows : Rows) (ws : Writes) → LeavesDays rows ws → AreDaysCovered rows → AreDaysCovered (overlay rows ws)
unfolding sum_of
left_covered rows ws h covered pan day =
    let same = ap (λ (o : Option RowVal). spent_in (velocity_in o)) (get-fresh rows ws (RowKey.Velocity pan day) h.days) in
    let c = covered pan day in
    let counted = h.sums (λ k. 1) pan day in
    let money = h.sums (λ k. k.amount) pan day in
    record {
      count = subst (λ (d : VelocityRow). open_count (overlay rows ws) pan day ≤ d.count) (sym same) (omega (arith, c.count, counted));
      sum = subst (λ (d : VelocityRow). open_sum (overlay rows ws) pan day ≤ d.sum) (sym same) (omega (arith, c.sum, money));
    }

nothing_written : (rows : Rows) (writes : Writes) → writes ≡ [] → LeavesDays rows writes
nothing_written rows writes e = subst (LeavesDays rows) (sym e) (record { days = tt; sums = λ weight pan day. refl })

-- an original that counts nothing before and behind
neutral : (rows : Rows) (identity : Identity) (v : RowVal) (rest writes : Writes) → writes ≡ (RowKey.Original identity, v) ∷ rest → IsFresh 3 rest → IsFresh 1 rest → ((weight : Weight) (pan : Pan) (day : List ℕ) → counts weight pan day identity (original_in (map.get rows (RowKey.Original identity))) ≡ 0) → ((weight : Weight) (pan : Pan) (day : List ℕ) → counts weight pan day identity (original_in (Some v)) ≡ 0) → LeavesDays rows writes
neutral rows identity v rest writes e fresh days before behind = record {
  days = subst (IsFresh 1) (sym e) (refl, days);
  sums = λ weight pan day.
      let s = sum_behind weight pan day rows identity v rest writes e fresh in
      let b = before weight pan day in
      let a = behind weight pan day in
      omega (arith, s, a, b);
}

closed : (weight : Weight) (pan : Pan) (day : List ℕ) (identity : Identity) (k : KeptOriginal) → is_open_request k.outcome ≡ false → counts weight pan day identity (Some (OriginalRow.Kept k)) ≡ 0
closed weight pan day identity k e =
    ap (λ (b : Bool). if◌then◌else◌ {A = ℕ} b (weight k) 0) (and_right (is_same_card k.card pan) _ (and_right (text_eq (day_of identity.stamp) day) _ e))

-- ---- requests

none_before : (row : Option OriginalRow) → row ≡ None → (identity : Identity) (weight : Weight) (pan : Pan) (day : List ℕ) → counts weight pan day identity row ≡ 0
none_before row e identity weight pan day = ap (counts weight pan day identity) e

same_pan : (a b : Pan) → is_same_card a b ≡ true → a ≡ b
same_pan a b e = let digits = texts_same a.0 b.0 e in λ i. record { 0 = digits i }

-- of a day of the key that is written, and of another
same_texts_match : (p pan : Pan) (d day : List ℕ) (o : Bool) → RowKey.Velocity pan day ≡ RowKey.Velocity p d → (is_same_card p pan && (text_eq d day && o)) ≡ o
same_texts_match p pan d day o e =
    let pans : pan ≡ p = cc in
    let days : day ≡ d = cc in
    ap (λ (x : Pan). is_same_card p x && (text_eq d day && o)) pans
    ∙ ap (λ (b : Bool). b && (text_eq d day && o)) (same_text p.0)
    ∙ ap (λ (x : List ℕ). text_eq d x && o) days
    ∙ ap (λ (b : Bool). b && o) (same_text d)

no_match : (p pan : Pan) (d day : List ℕ) (o : Bool) → RowKey.Velocity pan day ≢ RowKey.Velocity p d → (is_same_card p pan && (text_eq d day && o)) ≡ false
no_match p pan d day o other =
    elim (is_same_card p pan && (text_eq d day && o)) as (λ b. (is_same_card p pan && (text_eq d day && o)) ≡ b → b ≡ false) [
      | true ↦ λ e.
          let x = and_parts (is_same_card p pan) (text_eq d day && o) e in
          let y = and_parts (text_eq d day) o x.1 in
          let pans = same_pan p pan x.0 in
          let days = texts_same d day y.0 in
          absurd (other (λ i. RowKey.Velocity (sym pans i) (sym days i)))
      | false ↦ λ e. refl
    ] refl

at_most : (b : Bool) (x : ℕ) → (if b then x else 0) ≤ x
at_most true x = omega arith
at_most false x = omega arith

pub nothing_if : (b : Bool) (x : ℕ) → b ≡ false → (if b then x else 0) ≡ 0
nothing_if b x e = ap (λ (y : Bool). if◌then◌else◌ {A = ℕ} y x 0) e

all_if : (b : Bool) (x : ℕ) → b ≡ true → (if b then x else 0) ≡ x
all_if b x e = ap (λ (y : Bool). if◌then◌else◌ {A = ℕ} y x 0) e

-- what a day has, from its row
abbrev spent_of : Option RowVal → VelocityRow
spent_of o = spent_in (velocity_in o)

approved_covered : (rows : Rows) (r : Request) (reply : ReplyBody) (writes : Writes) → original_in (map.get rows (RowKey.Original (identity_of r.transaction))) ≡ None → request.Approves r (map.get rows) reply writes → AreDaysCovered rows → AreDaysCovered (overlay rows writes)
unfolding sum_of
approved_covered rows r reply writes unseen a covered pan day =
    let c = covered pan day in
    let counted = sum_behind (λ x. 1) pan day rows (identity_of r.transaction) _ _ writes a.writes (refl, (refl, (funds_other a.paying, tt))) in
    let money = sum_behind (λ x. x.amount) pan day rows (identity_of r.transaction) _ _ writes a.writes (refl, (refl, (funds_other a.paying, tt))) in
    let none_counted = none_before _ unseen (identity_of r.transaction) (λ x. 1) pan day in
    let none_money = none_before _ unseen (identity_of r.transaction) (λ x. x.amount) pan day in
    let row = approved_day_row (map.get rows) r reply writes a in
    let written = spent_more (request.spent_by r (map.get rows)) r.transaction.amount in
    let key = RowKey.Velocity r.transaction.pan (day_of r.transaction.stamp) in
    let open_now = is_same_card r.transaction.pan pan && (text_eq (day_of r.transaction.stamp) day && true) in
    elim (same_or_other (RowKey.Velocity pan day) key) [
      | inl own ↦
          let before = ap (λ (q : RowKey). spent_of (map.get rows q)) own in
          let after = ap spent_of (ap (map.get (overlay rows writes)) own ∙ value_there rows writes key (RowVal.Velocity written) row) in
          let counts_before = ap (λ (d : VelocityRow). d.count) before in
          let counts_after = ap (λ (d : VelocityRow). d.count) after in
          let sums_before = ap (λ (d : VelocityRow). d.sum) before in
          let sums_after = ap (λ (d : VelocityRow). d.sum) after in
          let few = at_most open_now 1 in
          let little = at_most open_now r.transaction.amount in
          record {
            count = omega (arith, counted, none_counted, c.count, counts_before, counts_after, few);
            sum = omega (arith, money, none_money, c.sum, sums_before, sums_after, little);
          }
      | inr other ↦
          let same = ap spent_of (value_other rows writes key (RowVal.Velocity written) (RowKey.Velocity pan day) refl row other) in
          let counts_same = ap (λ (d : VelocityRow). d.count) same in
          let sums_same = ap (λ (d : VelocityRow). d.sum) same in
          let few = nothing_if open_now 1 (no_match r.transaction.pan pan (day_of r.transaction.stamp) day true other) in
          let little = nothing_if open_now r.transaction.amount (no_match r.transaction.pan pan (day_of r.transaction.stamp) day true other) in
          record {
            count = omega (arith, counted, none_counted, c.count, counts_same, few);
            sum = omega (arith, money, none_money, c.sum, sums_same, little);
          }
    ]

-- what a plan does
either : (rows : Rows) (b : Bool) (p q : Plan) → LeavesDays rows (carried_out p (map.get rows)).writes → LeavesDays rows (carried_out q (map.get rows)).writes → LeavesDays rows (carried_out (if b then p else q) (map.get rows)).writes
either rows true p q x y = x
either rows false p q x y = y

-- an original that was not posted counts nothing, and neither does a mark
request_covered : (rows : Rows) (r : Request) (row : Option OriginalRow) → original_in (map.get rows (RowKey.Original (identity_of r.transaction))) ≡ row → AreDaysCovered rows → AreDaysCovered (overlay rows (carried_out (on_original r row) (map.get rows)).writes)
request_covered rows r None e covered =
    elim (request.fresh_ways r (map.get rows)) [
      | inl d ↦
          left_covered rows _
          (neutral rows (identity_of r.transaction) _ [] _ d.writes tt tt (none_before _ e (identity_of r.transaction)) (λ weight pan day. closed weight pan day (identity_of r.transaction) (kept_with r.transaction (OriginalOutcome.Declined d.action None)) refl)) covered
      | inr a ↦ approved_covered rows r _ _ e a covered
    ]
request_covered rows r (Some (OriginalRow.Ahead mark)) e covered =
    left_covered rows _
    (either rows (is_marked mark r.transaction OriginalKind.Request) _ _
    (neutral rows (identity_of r.transaction) (kept_of_request r (OriginalOutcome.Declined 914 (Some mark.reversal))) [] _ refl tt tt (λ weight pan day. ap (counts weight pan day (identity_of r.transaction)) e) (λ weight pan day. closed weight pan day (identity_of r.transaction) (kept_with r.transaction (OriginalOutcome.Declined 914 (Some mark.reversal))) refl))
    (nothing_written rows [] refl)) covered
request_covered rows r (Some (OriginalRow.Kept k)) e covered =
    left_covered rows _ (either rows (r.repeat && is_of_same k r.transaction OriginalKind.Request) _ _ (nothing_written rows [] refl) (nothing_written rows [] refl)) covered

advice_covered : (rows : Rows) (a : Advice) (row : Option OriginalRow) → original_in (map.get rows (RowKey.Original (identity_of a.transaction))) ≡ row → LeavesDays rows (carried_out (advice_on_original a row) (map.get rows)).writes
advice_covered rows a None e =
    elim (advice.fresh_ways a (map.get rows)) [
      | inl d ↦
          neutral rows (identity_of a.transaction) _ [] _ d.writes tt tt (none_before _ e (identity_of a.transaction)) (λ weight pan day. closed weight pan day (identity_of a.transaction) (kept_with a.transaction (OriginalOutcome.Acknowledged 900 None)) refl)
      | inr w ↦
          neutral rows (identity_of a.transaction) _ _ _ w.writes (funds_other w.paying, tt) ((leaves_two w.paying).1, tt) (none_before _ e (identity_of a.transaction)) (λ weight pan day. closed weight pan day (identity_of a.transaction) (kept_with a.transaction (OriginalOutcome.Accepted (paid_by w.paying))) refl)
    ]
advice_covered rows a (Some (OriginalRow.Ahead mark)) e =
    either rows (is_marked mark a.transaction OriginalKind.Advice) _ _
    (neutral rows (identity_of a.transaction) (kept_of_advice a (OriginalOutcome.Acknowledged 900 (Some mark.reversal))) [] _ refl tt tt (λ weight pan day. ap (counts weight pan day (identity_of a.transaction)) e) (λ weight pan day. closed weight pan day (identity_of a.transaction) (kept_with a.transaction (OriginalOutcome.Acknowledged 900 (Some mark.reversal))) refl))
    (nothing_written rows [] refl)
advice_covered rows a (Some (OriginalRow.Kept k)) e =
    either rows (a.repeat && is_of_same k a.transaction OriginalKind.Advice) _ _ (nothing_written rows [] refl) (nothing_written rows [] refl)

-- ---- reversals

is_none_of : (s : Option Settlement) → option_map (λ (x : Settlement). x.reversal) s ≡ None → is_none s ≡ true
is_none_of None e = refl
is_none_of (Some s) e = absurd (cc)

-- a request that is posted and has no reversal is open
pub open_before : (o : OriginalOutcome) (payment : Payment) → kind_of_outcome o ≡ OriginalKind.Request → payment_of_outcome o ≡ Some payment → reversal_of_outcome o ≡ None → is_open_request o ≡ true
open_before (OriginalOutcome.Approved code paid) payment k p r = is_none_of paid.settlement r
open_before (OriginalOutcome.Declined action other) payment k p r = absurd (cc)
open_before (OriginalOutcome.Accepted paid) payment k p r = absurd (cc)
open_before (OriginalOutcome.Acknowledged action other) payment k p r = absurd (cc)

-- one that is reversed isn't, and neither is an advice, nor one that wasn't posted
closed_behind : (o : OriginalOutcome) (by : Identity) (n : ℕ) → is_open_request (settled_outcome o by n) ≡ false
closed_behind (OriginalOutcome.Approved code paid) by n = refl
closed_behind (OriginalOutcome.Declined action other) by n = refl
closed_behind (OriginalOutcome.Accepted paid) by n = refl
closed_behind (OriginalOutcome.Acknowledged action other) by n = refl

advice_closed : (o : OriginalOutcome) → kind_of_outcome o ≡ OriginalKind.Advice → is_open_request o ≡ false
advice_closed (OriginalOutcome.Approved code paid) k = absurd (cc)
advice_closed (OriginalOutcome.Declined action other) k = refl
advice_closed (OriginalOutcome.Accepted paid) k = refl
advice_closed (OriginalOutcome.Acknowledged action other) k = refl

unposted_closed : (o : OriginalOutcome) → payment_of_outcome o ≡ None → is_open_request o ≡ false
unposted_closed (OriginalOutcome.Approved code paid) p = absurd (cc)
unposted_closed (OriginalOutcome.Declined action other) p = refl
unposted_closed (OriginalOutcome.Accepted paid) p = refl
unposted_closed (OriginalOutcome.Acknowledged action other) p = refl

kept_counts : (weight : Weight) (pan : Pan) (day : List ℕ) (identity : Identity) (row : Option OriginalRow) (k : KeptOriginal) → row ≡ Some (OriginalRow.Kept k) → is_open_request k.outcome ≡ false → counts weight pan day identity row ≡ 0
kept_counts weight pan day identity row k e shut = ap (counts weight pan day identity) e ∙ closed weight pan day identity k shut

-- no more goes back than the amount
pub back_within : (v : Reversal) (k : KeptOriginal) → given_back v k ≤ k.amount
back_within v k = difference_within v.scope v.transaction.amount k.amount

one_at_most : (s : ReversalScope) (n : ℕ) → n ≤ count_left s n + 1
one_at_most ReversalScope.Full n = omega arith
one_at_most (ReversalScope.Partial claimed) n = omega arith

reversed_covered : (rows : Rows) (v : Reversal) (reply : ReplyBody) (writes : Writes) (s : SettlesPosted v (map.get rows) reply writes) (day : VelocityRow) → writes ≡ reversed_original v s.kept ∷ (day_put v s.kept (Some day) ++ refunded v s.kept s.paid ∷ []) → IsDayFound v (map.get rows) s.kept (Some day) → AreDaysCovered rows → AreDaysCovered (overlay rows writes)
unfolding sum_of
reversed_covered rows v reply writes s found_day all found covered pan day =
    let c = covered pan day in
    let identity = v.original.identity in
    let counted = sum_behind (λ x. 1) pan day rows identity _ _ writes all (refl, (funds_other s.paid, tt)) in
    let money = sum_behind (λ x. x.amount) pan day rows identity _ _ writes all (refl, (funds_other s.paid, tt)) in
    let shut_counted = closed (λ x. 1) pan day identity (settled s.kept (identity_of v.transaction) (s.kept.amount - given_back v s.kept)) (closed_behind s.kept.outcome (identity_of v.transaction) (s.kept.amount - given_back v s.kept)) in
    let shut_money = closed (λ x. x.amount) pan day identity (settled s.kept (identity_of v.transaction) (s.kept.amount - given_back v s.kept)) (closed_behind s.kept.outcome (identity_of v.transaction) (s.kept.amount - given_back v s.kept)) in
    let was_counted = ap (counts (λ x. 1) pan day identity) s.names.stands in
    let was_money = ap (counts (λ x. x.amount) pan day identity) s.names.stands in
    let key = RowKey.Velocity s.kept.card (day_of identity.stamp) in
    let left = spent_less v s.kept found_day in
    let row : WritesOne 1 writes (RowKey.Velocity s.kept.card (day_of v.original.identity.stamp)) (RowVal.Velocity (spent_less v s.kept found_day)) = record { front = reversed_original v s.kept ∷ []; rest = refunded v s.kept s.paid ∷ []; all = all; fresh_front = (refl, tt); fresh_rest = ((leaves_two s.paid).1, tt) } in
    let open_now = is_open_on pan day identity s.kept in
    elim (same_or_other (RowKey.Velocity pan day) key) [
      | inl own ↦
          let before = ap (λ (q : RowKey). spent_of (map.get rows q)) own ∙ ap spent_in found.stands in
          let after = ap spent_of (ap (map.get (overlay rows writes)) own ∙ value_there rows writes key (RowVal.Velocity left) row) in
          let counts_before = ap (λ (d : VelocityRow). d.count) before in
          let counts_after = ap (λ (d : VelocityRow). d.count) after in
          let sums_before = ap (λ (d : VelocityRow). d.sum) before in
          let sums_after = ap (λ (d : VelocityRow). d.sum) after in
          let is_open = same_texts_match s.kept.card pan (day_of identity.stamp) day (is_open_request s.kept.outcome) own ∙ open_before s.kept.outcome s.payment found.request s.posted s.names.reversal in
          let few = all_if open_now 1 is_open in
          let little = all_if open_now s.kept.amount is_open in
          record {
            count = omega (arith, counted, shut_counted, was_counted, c.count, counts_before, counts_after, few, one_at_most v.scope found_day.count);
            sum = omega (arith, money, shut_money, was_money, c.sum, sums_before, sums_after, little, back_within v s.kept);
          }
      | inr other ↦
          let same = ap spent_of (value_other rows writes key (RowVal.Velocity left) (RowKey.Velocity pan day) refl row other) in
          let counts_same = ap (λ (d : VelocityRow). d.count) same in
          let sums_same = ap (λ (d : VelocityRow). d.sum) same in
          record {
            count = omega (arith, counted, shut_counted, c.count, counts_same);
            sum = omega (arith, money, shut_money, c.sum, sums_same);
          }
    ]

posted_covered : (rows : Rows) (v : Reversal) (reply : ReplyBody) (writes : Writes) (s : SettlesPosted v (map.get rows) reply writes) (day : Option VelocityRow) → s.day ≡ day → AreDaysCovered rows → AreDaysCovered (overlay rows writes)
posted_covered rows v reply writes s None e covered =
    let all = s.writes ∙ ap (λ (d : Option VelocityRow). reversed_original v s.kept ∷ (day_put v s.kept d ++ refunded v s.kept s.paid ∷ [])) e in
    let kind = subst (IsDayFound v (map.get rows) s.kept) e s.day_found in
    left_covered rows writes
    (neutral rows v.original.identity _ _ writes all (funds_other s.paid, tt) ((leaves_two s.paid).1, tt)
    (λ weight pan day. kept_counts weight pan day v.original.identity _ s.kept s.names.stands (advice_closed s.kept.outcome kind))
    (λ weight pan day. closed weight pan day v.original.identity (settled s.kept (identity_of v.transaction) (s.kept.amount - given_back v s.kept)) (closed_behind s.kept.outcome (identity_of v.transaction) (s.kept.amount - given_back v s.kept)))) covered
posted_covered rows v reply writes s (Some day) e covered =
    reversed_covered rows v reply writes s day (s.writes ∙ ap (λ (d : Option VelocityRow). reversed_original v s.kept ∷ (day_put v s.kept d ++ refunded v s.kept s.paid ∷ [])) e) (subst (IsDayFound v (map.get rows) s.kept) e s.day_found) covered

reversal_covered : (rows : Rows) (v : Reversal) → AreDaysCovered rows → AreDaysCovered (overlay rows (carried_out (reversal_plan v) (map.get rows)).writes)
reversal_covered rows v covered =
    elim (reversal_ways v (map.get rows)) [
      | inl w ↦ left_covered rows _ (nothing_written rows _ w.writes) covered
      | inr w1 ↦ elim w1 [
        | inl w ↦
            left_covered rows _ (neutral rows v.original.identity _ [] _ w.writes tt tt (none_before _ w.none v.original.identity) (λ weight pan day. refl)) covered
        | inr w2 ↦ elim w2 [
          | inl w ↦ left_covered rows _ (nothing_written rows _ w.writes) covered
          | inr w3 ↦ elim w3 [
            | inl w ↦
                left_covered rows _
                (neutral rows v.original.identity _ [] _ w.writes tt tt
                (λ weight pan day. kept_counts weight pan day v.original.identity _ w.kept w.names.stands (unposted_closed w.kept.outcome w.unposted))
                (λ weight pan day. closed weight pan day v.original.identity (settled w.kept (identity_of v.transaction) 0) (closed_behind w.kept.outcome (identity_of v.transaction) 0))) covered
            | inr s ↦ posted_covered rows v _ _ s s.day refl covered
          ]
        ]
      ]
    ]

covered_one : (rows : Rows) (frame : Frame) → AreDaysCovered rows → AreDaysCovered (rows_after_one rows frame)
unfolding decision
covered_one rows (Frame.Good (Message.Request r)) covered = request_covered rows r _ refl covered
covered_one rows (Frame.Good (Message.Advice a)) covered = left_covered rows _ (advice_covered rows a _ refl) covered
covered_one rows (Frame.Good (Message.Reversal v)) covered = reversal_covered rows v covered
covered_one rows (Frame.Bad fault) covered = covered

-- whatever comes, days have what reversals may take
pub stays_covered : (frames : List Frame) (rows : Rows) → AreDaysCovered rows → AreDaysCovered (rows_after rows frames)
stays_covered [] rows covered = covered
stays_covered (frame ∷ frames) rows covered = stays_covered frames (rows_after_one rows frame) (covered_one rows frame covered)
