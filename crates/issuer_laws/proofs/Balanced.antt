-- The rows that a decision writes add as much to each backing as before.
use Rattle.std.proofs.Common.{◌≡◌, ℕ, ◌+◌, ◌-◌, ◌≤◌, Bool, true, false, if◌then◌else◌, ◌&&◌, List, [], ◌∷◌, ◌++◌, Option, Some, None, option_map, inl, inr, refl, sym, ap, ◌∙◌, subst, arith}
use Rattle.issuer_words.specs.Words.{AccountRow, Advice, BudgetRow, Frame, Funds, Identity, KeptOriginal, Lookup, OriginalOutcome, OriginalRow, Pan, PanPrefix, Payer, Payment, Plan, ReplyBody, Request, Reversal, ReversalScope, RowVal, Settlement, VelocityRow, Writes, account_paid, advice_on_original, approved_card, available_in, balance_of, budget_paid, carried_out, day_of, decision, difference, given_back, identity_of, is_account, is_budget, is_marked, is_of_same, kept_of_advice, kept_of_request, key_of_funds, left_in, on_original, original_in, paid_by, payer_of, payment_of_outcome, prefix_of, refunded, reversal_of_outcome, reversal_plan, reversed_original, row_of_funds, settled, settled_outcome, settled_payment, spent_in, spent_less, spent_more, stay_if, stay_of, stay_of_payment, stay_of_settlement, text_eq, velocity_in, with_balance}
use Rattle.iso8583.specs.declared.message.Message.TheVariants as message
use Rattle.iso8583.specs.declared.original_kind.OriginalKind.TheVariants as kind
use Rattle.iso8583.specs.declared.reversal_scope.ReversalScope.TheVariants as scope
use Rattle.issuer_rows.specs.declared.frame.Frame.TheVariants.{Good, Bad}
use Rattle.issuer_rows.specs.declared.funds.Funds.TheVariants as funds
use Rattle.issuer_rows.specs.declared.original_row.OriginalRow.TheVariants as original
use Rattle.issuer_rows.specs.declared.original_outcome.OriginalOutcome.TheVariants as outcome
use Rattle.issuer_rows.specs.declared.row_key.RowKey.TheVariants as key
use Rattle.issuer_rows.specs.declared.row_val.RowVal.TheVariants as val
use Rattle.issuer_laws.proofs.AdviceWays as advice
use Rattle.issuer_laws.proofs.Backings.{Holder, Account, Prefix, is_from, is_account_of, is_prefix_of, own_part, stay_part, IsBalanced}
use Rattle.issuer_laws.proofs.Funding.{IsFound, IsOfCard}
use Rattle.issuer_laws.proofs.RequestWays as request
use Rattle.issuer_laws.proofs.ReversalWays.{SettlesPosted, day_put, reversal_ways}

-- what stays paid of an original's row
abbrev stay_seen : Holder → Option OriginalRow → ℕ
stay_seen h None = 0
stay_seen h (Some (original.Kept k)) = stay_if (is_from h) (Some k)
stay_seen h (Some (original.Ahead mark)) = 0

stay_is_seen : (h : Holder) (identity : Identity) (row : Option RowVal) → stay_part h (key.Original identity) row ≡ stay_seen h (original_in row)
stay_is_seen h identity None = refl
stay_is_seen h identity (Some (val.Card row)) = refl
stay_is_seen h identity (Some (val.Velocity row)) = refl
stay_is_seen h identity (Some (val.Budget row)) = refl
stay_is_seen h identity (Some (val.Kept k)) = refl
stay_is_seen h identity (Some (val.Ahead mark)) = refl
stay_is_seen h identity (Some (val.Account row)) = refl

nothing_if : (b : Bool) → ◌≡◌ {A = ℕ} (if b then 0 else 0) 0
nothing_if true = refl
nothing_if false = refl

-- nothing stays paid of an original that isn't posted
unposted_stay : (h : Holder) (k : KeptOriginal) → stay_of k ≡ 0 → stay_if (is_from h) (Some k) ≡ 0
unposted_stay h k e = ap (λ n. if is_from h k then n else 0) e ∙ nothing_if (is_from h k)

-- this payer of a message of this card is the account, or the budget of the prefix
abbrev pays_from : Holder → Pan → Payer → Bool
pays_from (Account id) card p = is_account id p
pays_from (Prefix prefix) card p = is_budget p && text_eq (prefix_of card).0 prefix.0

-- what stays paid of an original that is posted
posted_stay : (h : Holder) (k : KeptOriginal) (payment : Payment) (n : ℕ) → payment_of_outcome k.outcome ≡ Some payment → stay_of k ≡ n → stay_if (is_from h) (Some k) ≡ (if pays_from h k.card payment.payer then n else 0)
posted_stay (Account id) k payment n e s =
    ap (λ m. if is_from (Account id) k then m else 0) s ∙ ap (λ p. if account_paid id p then n else 0) e
posted_stay (Prefix prefix) k payment n e s =
    ap (λ m. if is_from (Prefix prefix) k then m else 0) s ∙ ap (λ p. if budget_paid p && text_eq (prefix_of k.card).0 prefix.0 then n else 0) e

no_stay : (h : Holder) (f : Funds) (row : Option RowVal) → stay_part h (key_of_funds f) row ≡ 0
no_stay h (funds.Account id r) None = refl
no_stay h (funds.Account id r) (Some v) = refl
no_stay h (funds.Budget prefix r) None = refl
no_stay h (funds.Budget prefix r) (Some v) = refl

no_stay_card : (h : Holder) (pan : Pan) (row : Option RowVal) → stay_part h (key.Card pan) row ≡ 0
no_stay_card h pan None = refl
no_stay_card h pan (Some v) = refl

no_stay_day : (h : Holder) (pan : Pan) (day : List ℕ) (row : Option RowVal) → stay_part h (key.Velocity pan day) row ≡ 0
no_stay_day h pan day None = refl
no_stay_day h pan day (Some v) = refl

-- the row that pays, with another balance
own_after : (h : Holder) (card : Pan) (f : Funds) (n : ℕ) → IsOfCard card f → own_part h (key_of_funds f) (Some (row_of_funds (with_balance f n))) ≡ (if pays_from h card (payer_of f) then n else 0)
own_after (Account id) card (funds.Account a row) n h = refl
own_after (Account id) card (funds.Budget p row) n h = refl
own_after (Prefix prefix) card (funds.Account a row) n h = refl
own_after (Prefix prefix) card (funds.Budget p row) n h = ap (λ (x : PanPrefix). if text_eq x.0 prefix.0 then n else 0) h

-- the row that pays, as it was found
own_before : (h : Holder) (look : Lookup) (card : Pan) (f : Funds) → IsFound look f → IsOfCard card f → own_part h (key_of_funds f) (look (key_of_funds f)) ≡ (if pays_from h card (payer_of f) then balance_of f else 0)
own_before h look card (funds.Account a row) e of_card =
    ap (λ (r : Option AccountRow). if is_account_of h a then available_in r else 0) e ∙ own_after h card (funds.Account a row) row.available of_card
own_before h look card (funds.Budget p row) e of_card =
    ap (λ (r : Option BudgetRow). if is_prefix_of h p then left_in r else 0) e ∙ own_after h card (funds.Budget p row) row.left of_card

paying : (paid : Bool) (amount balance : ℕ) → amount ≤ balance → (if paid then balance else 0) ≡ (if paid then amount else 0) + (if paid then balance - amount else 0)
paying true amount balance h = omega arith
paying false amount balance h = refl

returning : (paid : Bool) (amount back balance : ℕ) → back ≤ amount → (if paid then amount else 0) + (if paid then balance else 0) ≡ (if paid then amount - back else 0) + (if paid then balance + back else 0)
returning true amount back balance h = omega arith
returning false amount back balance h = refl

-- nothing that is written adds anything
nothing_put : (h : Holder) (look : Lookup) (writes : Writes) → writes ≡ [] → IsBalanced h look writes
nothing_put h look writes e = subst (IsBalanced h look) (sym e) refl

-- an original of which nothing stayed and nothing stays
one_put : (h : Holder) (look : Lookup) (identity : Identity) (v : RowVal) (writes : Writes) → stay_seen h (original_in (look (key.Original identity))) ≡ 0 → stay_part h (key.Original identity) (Some v) ≡ 0 → writes ≡ (key.Original identity, v) ∷ [] → IsBalanced h look writes
one_put h look identity v writes none stays e =
    let before = stay_is_seen h identity (look (key.Original identity)) in
    subst (IsBalanced h look) (sym e) (omega (arith, before, none, stays))

-- two rows: the original, and the row that pays
two : (so so' sf sf' own own' x y z : ℕ) → so ≡ x → sf ≡ 0 → sf' ≡ 0 → own ≡ y → so' ≡ z → x + y ≡ z + own' → (0 + so) + ((own + sf) + 0) ≡ (0 + so') + ((own' + sf') + 0)
two so so' sf sf' own own' x y z a b c d e g = omega arith

-- three rows: the day between them
three : (so so' sd sd' sf sf' own own' x y z : ℕ) → sd ≡ 0 → sd' ≡ 0 → so ≡ x → sf ≡ 0 → sf' ≡ 0 → own ≡ y → so' ≡ z → x + y ≡ z + own' → (0 + so) + ((0 + sd) + ((own + sf) + 0)) ≡ (0 + so') + ((0 + sd') + ((own' + sf') + 0))
three so so' sd sd' sf sf' own own' x y z p q a b c d e g = omega arith

-- four rows: the card before the day
four : (so so' sc sc' sd sd' sf sf' own own' x y z : ℕ) → sc ≡ 0 → sc' ≡ 0 → sd ≡ 0 → sd' ≡ 0 → so ≡ x → sf ≡ 0 → sf' ≡ 0 → own ≡ y → so' ≡ z → x + y ≡ z + own' → (0 + so) + ((0 + sc) + ((0 + sd) + ((own + sf) + 0))) ≡ (0 + so') + ((0 + sc') + ((0 + sd') + ((own' + sf') + 0)))
four so so' sc sc' sd sd' sf sf' own own' x y z m n p q a b c d e g = omega arith

taken : (h : Holder) (look : Lookup) (card : Pan) (amount : ℕ) (f : Funds) → IsOfCard card f → amount ≤ balance_of f → 0 + (if pays_from h card (payer_of f) then balance_of f else 0) ≡ (if pays_from h card (payer_of f) then amount else 0) + own_part h (key_of_funds f) (Some (row_of_funds (with_balance f (balance_of f - amount))))
taken h look card amount f of_card covered =
    omega (arith, paying (pays_from h card (payer_of f)) amount (balance_of f) covered, own_after h card f (balance_of f - amount) of_card)

-- an approved request
approved_balanced : (h : Holder) (look : Lookup) (r : Request) (reply : ReplyBody) (writes : Writes) → original_in (look (key.Original (identity_of r.transaction))) ≡ None → request.Approves r look reply writes → IsBalanced h look writes
approved_balanced h look r reply writes unseen a =
    subst (IsBalanced h look) (sym a.writes)
    (four _ _ _ _ _ _ _ _ _ _ _ _ _
    (no_stay_card h r.transaction.pan (look _)) (no_stay_card h r.transaction.pan (Some (val.Card (approved_card a.card))))
    (no_stay_day h r.transaction.pan (day_of r.transaction.stamp) (look _))
    (no_stay_day h r.transaction.pan (day_of r.transaction.stamp) (Some (val.Velocity (spent_more (spent_in (velocity_in (look (key.Velocity r.transaction.pan (day_of r.transaction.stamp))))) r.transaction.amount))))
    (stay_is_seen h (identity_of r.transaction) (look _) ∙ ap (stay_seen h) unseen)
    (no_stay h a.paying (look _)) (no_stay h a.paying (Some _))
    (own_before h look r.transaction.pan a.paying a.pays.found a.pays.of_card)
    (posted_stay h _ (paid_by a.paying) r.transaction.amount refl refl)
    (taken h look r.transaction.pan r.transaction.amount a.paying a.pays.of_card a.pays.covered))

-- an accepted advice
accepted_balanced : (h : Holder) (look : Lookup) (a : Advice) (reply : ReplyBody) (writes : Writes) → original_in (look (key.Original (identity_of a.transaction))) ≡ None → advice.Accepts a look reply writes → IsBalanced h look writes
accepted_balanced h look a reply writes unseen w =
    subst (IsBalanced h look) (sym w.writes)
    (two _ _ _ _ _ _ _ _ _
    (stay_is_seen h (identity_of a.transaction) (look _) ∙ ap (stay_seen h) unseen)
    (no_stay h w.paying (look _)) (no_stay h w.paying (Some _))
    (own_before h look a.transaction.pan w.paying w.pays.found w.pays.of_card)
    (posted_stay h _ (paid_by w.paying) a.transaction.amount refl refl)
    (taken h look a.transaction.pan a.transaction.amount w.paying w.pays.of_card w.pays.covered))

-- one of two plans, by a test
either : (h : Holder) (look : Lookup) (b : Bool) (p q : Plan) → IsBalanced h look (carried_out p look).writes → IsBalanced h look (carried_out q look).writes → IsBalanced h look (carried_out (if b then p else q) look).writes
either h look true p q x y = x
either h look false p q x y = y

request_balanced : (h : Holder) (look : Lookup) (r : Request) (row : Option OriginalRow) → original_in (look (key.Original (identity_of r.transaction))) ≡ row → IsBalanced h look (carried_out (on_original r row) look).writes
request_balanced h look r None e =
    elim (request.fresh_ways r look) [
      | inl d ↦ one_put h look (identity_of r.transaction) _ _ (ap (stay_seen h) e) (unposted_stay h _ refl) d.writes
      | inr a ↦ approved_balanced h look r _ _ e a
    ]
request_balanced h look r (Some (original.Ahead mark)) e =
    either h look (is_marked mark r.transaction kind.Request) _ _ (one_put h look (identity_of r.transaction) (kept_of_request r (outcome.Declined 914 (Some mark.reversal))) _ (ap (stay_seen h) e) (unposted_stay h (record { card = r.transaction.pan; amount = r.transaction.amount; processing = r.transaction.processing; outcome = outcome.Declined 914 (Some mark.reversal) }) refl) refl) (nothing_put h look [] refl)
request_balanced h look r (Some (original.Kept k)) e =
    either h look (r.repeat && is_of_same k r.transaction kind.Request) _ _ (nothing_put h look [] refl) (nothing_put h look [] refl)

advice_balanced : (h : Holder) (look : Lookup) (a : Advice) (row : Option OriginalRow) → original_in (look (key.Original (identity_of a.transaction))) ≡ row → IsBalanced h look (carried_out (advice_on_original a row) look).writes
advice_balanced h look a None e =
    elim (advice.fresh_ways a look) [
      | inl d ↦ one_put h look (identity_of a.transaction) _ _ (ap (stay_seen h) e) (unposted_stay h _ refl) d.writes
      | inr w ↦ accepted_balanced h look a _ _ e w
    ]
advice_balanced h look a (Some (original.Ahead mark)) e =
    either h look (is_marked mark a.transaction kind.Advice) _ _ (one_put h look (identity_of a.transaction) (kept_of_advice a (outcome.Acknowledged 900 (Some mark.reversal))) _ (ap (stay_seen h) e) (unposted_stay h (record { card = a.transaction.pan; amount = a.transaction.amount; processing = a.transaction.processing; outcome = outcome.Acknowledged 900 (Some mark.reversal) }) refl) refl) (nothing_put h look [] refl)
advice_balanced h look a (Some (original.Kept k)) e =
    either h look (a.repeat && is_of_same k a.transaction kind.Advice) _ _ (nothing_put h look [] refl) (nothing_put h look [] refl)

-- what stays of an original that has no reversal: its amount
pub no_settlement : (amount : ℕ) (s : Option Settlement) → option_map (λ (x : Settlement). x.reversal) s ≡ None → stay_of_settlement amount s ≡ amount
no_settlement amount None f = refl
no_settlement amount (Some s) f = absurd (cc)

unreversed_stay : (amount : ℕ) (o : OriginalOutcome) (payment : Payment) → payment_of_outcome o ≡ Some payment → reversal_of_outcome o ≡ None → stay_of_payment amount (payment_of_outcome o) ≡ amount
unreversed_stay amount (outcome.Approved code p) payment e f = no_settlement amount p.settlement f
unreversed_stay amount (outcome.Declined action by) payment e f = absurd (cc)
unreversed_stay amount (outcome.Accepted p) payment e f = no_settlement amount p.settlement f
unreversed_stay amount (outcome.Acknowledged action by) payment e f = absurd (cc)

-- what is posted stays posted, from the same payer, and so much of it stays
reversed_payment : (n : ℕ) (by : Identity) (o : OriginalOutcome) (payment : Payment) → payment_of_outcome o ≡ Some payment → payment_of_outcome (settled_outcome o by n) ≡ Some (settled_payment payment by n)
reversed_payment n by (outcome.Approved code p) payment e = ap (option_map (λ (x : Payment). settled_payment x by n)) e
reversed_payment n by (outcome.Declined action other) payment e = absurd (cc)
reversed_payment n by (outcome.Accepted p) payment e = ap (option_map (λ (x : Payment). settled_payment x by n)) e
reversed_payment n by (outcome.Acknowledged action other) payment e = absurd (cc)

-- what isn't posted stays so
unposted_payment : (n : ℕ) (by : Identity) (o : OriginalOutcome) → payment_of_outcome o ≡ None → payment_of_outcome (settled_outcome o by n) ≡ None
unposted_payment n by (outcome.Approved code p) e = absurd (cc)
unposted_payment n by (outcome.Declined action other) e = refl
unposted_payment n by (outcome.Accepted p) e = absurd (cc)
unposted_payment n by (outcome.Acknowledged action other) e = refl

-- no more is given back than the original's amount
pub difference_within : (s : ReversalScope) (own amount : ℕ) → difference s own amount ≤ amount
difference_within scope.Full own amount = omega arith
difference_within (scope.Partial claimed) own amount = omega arith

-- the row that the reversal writes of the original, before and after
stay_before : (h : Holder) (look : Lookup) (v : Reversal) (reply : ReplyBody) (writes : Writes) (s : SettlesPosted v look reply writes) → stay_part h (key.Original v.original.identity) (look (key.Original v.original.identity)) ≡ (if pays_from h s.kept.card (payer_of s.paid) then s.kept.amount else 0)
stay_before h look v reply writes s =
    stay_is_seen h v.original.identity (look _)
    ∙ ap (stay_seen h) s.names.stands
    ∙ posted_stay h s.kept s.payment s.kept.amount s.posted (unreversed_stay s.kept.amount s.kept.outcome s.payment s.posted s.names.reversal)
    ∙ ap (λ (p : Payer). if pays_from h s.kept.card p then s.kept.amount else 0) (sym s.payer)

stay_after : (h : Holder) (look : Lookup) (v : Reversal) (reply : ReplyBody) (writes : Writes) (s : SettlesPosted v look reply writes) → stay_if (is_from h) (Some (settled s.kept (identity_of v.transaction) (s.kept.amount - given_back v s.kept))) ≡ (if pays_from h s.kept.card (payer_of s.paid) then s.kept.amount - given_back v s.kept else 0)
stay_after h look v reply writes s =
    let n = s.kept.amount - given_back v s.kept in
    let posted = reversed_payment n (identity_of v.transaction) s.kept.outcome s.payment s.posted in
    posted_stay h (settled s.kept (identity_of v.transaction) n) (settled_payment s.payment (identity_of v.transaction) n) n posted (ap (stay_of_payment s.kept.amount) posted)
    ∙ ap (λ (p : Payer). if pays_from h s.kept.card p then n else 0) (sym s.payer)

given : (h : Holder) (v : Reversal) (k : KeptOriginal) (f : Funds) → IsOfCard k.card f → (if pays_from h k.card (payer_of f) then k.amount else 0) + (if pays_from h k.card (payer_of f) then balance_of f else 0) ≡ (if pays_from h k.card (payer_of f) then k.amount - given_back v k else 0) + own_part h (key_of_funds f) (Some (row_of_funds (with_balance f (balance_of f + given_back v k))))
given h v k f of_card =
    omega (arith, returning (pays_from h k.card (payer_of f)) k.amount (given_back v k) (balance_of f) (difference_within v.scope v.transaction.amount k.amount), own_after h k.card f (balance_of f + given_back v k) of_card)

posted_balanced : (h : Holder) (look : Lookup) (v : Reversal) (reply : ReplyBody) (writes : Writes) (s : SettlesPosted v look reply writes) (day : Option VelocityRow) → IsBalanced h look (reversed_original v s.kept ∷ (day_put v s.kept day ++ refunded v s.kept s.paid ∷ []))
posted_balanced h look v reply writes s None =
    two _ _ _ _ _ _ _ _ _ (stay_before h look v reply writes s) (no_stay h s.paid (look _)) (no_stay h s.paid (Some _))
    (own_before h look s.kept.card s.paid s.found s.of_card)
    (stay_after h look v reply writes s)
    (given h v s.kept s.paid s.of_card)
posted_balanced h look v reply writes s (Some day) =
    three _ _ _ _ _ _ _ _ _ _ _ (no_stay_day h s.kept.card (day_of v.original.identity.stamp) (look _))
    (no_stay_day h s.kept.card (day_of v.original.identity.stamp) (Some (val.Velocity (spent_less v s.kept day))))
    (stay_before h look v reply writes s) (no_stay h s.paid (look _)) (no_stay h s.paid (Some _))
    (own_before h look s.kept.card s.paid s.found s.of_card)
    (stay_after h look v reply writes s)
    (given h v s.kept s.paid s.of_card)

reversal_balanced : (h : Holder) (look : Lookup) (v : Reversal) → IsBalanced h look (carried_out (reversal_plan v) look).writes
reversal_balanced h look v =
    elim (reversal_ways v look) [
      | inl w ↦ nothing_put h look _ w.writes
      | inr w1 ↦ elim w1 [
        | inl w ↦ one_put h look v.original.identity (val.Ahead (record { card = v.transaction.pan; kind = v.original.kind; reversal = identity_of v.transaction })) _ (ap (stay_seen h) w.none) refl w.writes
        | inr w2 ↦ elim w2 [
          | inl w ↦ nothing_put h look _ w.writes
          | inr w3 ↦ elim w3 [
            | inl w ↦ one_put h look v.original.identity (val.Kept (settled w.kept (identity_of v.transaction) 0)) _
                (ap (stay_seen h) w.names.stands ∙ unposted_stay h w.kept (ap (stay_of_payment w.kept.amount) w.unposted))
                (unposted_stay h (settled w.kept (identity_of v.transaction) 0) (ap (stay_of_payment w.kept.amount) (unposted_payment 0 (identity_of v.transaction) w.kept.outcome w.unposted)))
                w.writes
            | inr s ↦ subst (IsBalanced h look) (sym s.writes) (posted_balanced h look v _ _ s s.day)
          ]
        ]
      ]
    ]

-- whatever a body is, the rows that its decision writes add as much as before
pub decision_balanced : (h : Holder) (look : Lookup) (frame : Frame) → IsBalanced h look (decision look frame).writes
unfolding decision
decision_balanced h look (Good (message.Request r)) = request_balanced h look r (original_in (look (key.Original (identity_of r.transaction)))) refl
decision_balanced h look (Good (message.Advice a)) = advice_balanced h look a (original_in (look (key.Original (identity_of a.transaction)))) refl
decision_balanced h look (Good (message.Reversal v)) = reversal_balanced h look v
decision_balanced h look (Bad fault) = refl
