-- The first reversal of a posted original is done on a sound book whose days and budgets have what it takes.
use Rattle.std.proofs.Common.{◌≡◌, ℕ, Bool, true, false, if◌then◌else◌, ◌&&◌, List, [], ◌∷◌, ◌++◌, Option, Some, None, is_some, inl, inr, refl, sym, ap, ◌∙◌, subst}
use Rattle.std.specs.FinMap as map
use Rattle.std.specs.List.{AllByRecursion}
use Rattle.issuer_words.specs.Words.{Advice, Frame, Funds, Identity, KeptOriginal, Message, OriginalKind, OriginalOutcome, OriginalRow, Pan, PanPrefix, Payer, Payment, Plan, Request, Reversal, RowKey, RowVal, Rows, VelocityRow, Writes, advice_on_original, budget_in, carried_out, decision, is_marked, is_of_same, key_of_funds, on_original, original_in, overlay, payer_of, payment_of_outcome, prefix_of, refunded, reversal_plan, reversed_original, row_of_funds, rows_after, rows_after_one, settled_outcome, with_balance, writes_of}
use Rattle.issuer_laws.proofs.AdviceWays as advice
use Rattle.issuer_laws.proofs.Funding.{IsFound, IsOfCard}
use Rattle.issuer_laws.proofs.Needed.{written_or_same}
use Rattle.issuer_laws.proofs.RequestWays as request
use Rattle.issuer_laws.proofs.ReversalWays.{day_put, reversal_ways}
use Rattle.book_changes.specs.Reversible.{has_budget, is_budget_there, HaveBudgets}

-- ---- budgets stay

-- what is said of a row that is written: the budget that paid for an original is there, and a budget stays one
abbrev IsBacked : Rows → RowKey × RowVal → Type 0
IsBacked rows (RowKey.Original identity, RowVal.Kept k) = is_budget_there rows k.card (payment_of_outcome k.outcome) ≡ true
IsBacked rows (RowKey.Budget prefix, v) = is_some (budget_in (Some v)) ≡ true
IsBacked rows _ = Unit {0}

abbrev AreBacked : Rows → Writes → Type 0
AreBacked rows ws = AllByRecursion (IsBacked rows) ws

these : (rows : Rows) (ws writes : Writes) → writes ≡ ws → AreBacked rows ws → AreBacked rows writes
these rows ws writes e h = subst (AreBacked rows) (sym e) h

paying_there : (rows : Rows) (pan : Pan) (f : Funds) → IsFound (map.get rows) f → IsOfCard pan f → has_budget rows pan (payer_of f) ≡ true
paying_there rows pan (Funds.Account id row) found of_card = refl
paying_there rows pan (Funds.Budget prefix row) found of_card =
    ap is_some (subst (λ (p : PanPrefix). budget_in (map.get rows (RowKey.Budget p)) ≡ Some row) of_card found)

funds_backed : (rows : Rows) (f : Funds) (n : ℕ) → IsBacked rows (key_of_funds f, row_of_funds (with_balance f n))
funds_backed rows (Funds.Account id row) n = tt
funds_backed rows (Funds.Budget prefix row) n = refl

settled_there : (rows : Rows) (card : Pan) (o : OriginalOutcome) (by : Identity) (n : ℕ) → is_budget_there rows card (payment_of_outcome o) ≡ true → is_budget_there rows card (payment_of_outcome (settled_outcome o by n)) ≡ true
settled_there rows card (OriginalOutcome.Approved code payment) by n h = h
settled_there rows card (OriginalOutcome.Declined action other) by n h = refl
settled_there rows card (OriginalOutcome.Accepted payment) by n h = h
settled_there rows card (OriginalOutcome.Acknowledged action other) by n h = refl

either : (rows : Rows) (b : Bool) (p q : Plan) → AreBacked rows (carried_out p (map.get rows)).writes → AreBacked rows (carried_out q (map.get rows)).writes → AreBacked rows (carried_out (if b then p else q) (map.get rows)).writes
either rows true p q x y = x
either rows false p q x y = y

request_backed : (rows : Rows) (r : Request) (row : Option OriginalRow) → AreBacked rows (carried_out (on_original r row) (map.get rows)).writes
request_backed rows r None =
    elim (request.fresh_ways r (map.get rows)) [
      | inl d ↦ these rows _ _ d.writes (refl, tt)
      | inr a ↦ these rows _ _ a.writes (paying_there rows r.transaction.pan a.paying a.pays.found a.pays.of_card, (tt, (tt, (funds_backed rows a.paying _, tt))))
    ]
request_backed rows r (Some (OriginalRow.Ahead mark)) = either rows (is_marked mark r.transaction OriginalKind.Request) _ _ (refl, tt) tt
request_backed rows r (Some (OriginalRow.Kept k)) = either rows (r.repeat && is_of_same k r.transaction OriginalKind.Request) _ _ tt tt

advice_backed : (rows : Rows) (a : Advice) (row : Option OriginalRow) → AreBacked rows (carried_out (advice_on_original a row) (map.get rows)).writes
advice_backed rows a None =
    elim (advice.fresh_ways a (map.get rows)) [
      | inl d ↦ these rows _ _ d.writes (refl, tt)
      | inr w ↦ these rows _ _ w.writes (paying_there rows a.transaction.pan w.paying w.pays.found w.pays.of_card, (funds_backed rows w.paying _, tt))
    ]
advice_backed rows a (Some (OriginalRow.Ahead mark)) = either rows (is_marked mark a.transaction OriginalKind.Advice) _ _ (refl, tt) tt
advice_backed rows a (Some (OriginalRow.Kept k)) = either rows (a.repeat && is_of_same k a.transaction OriginalKind.Advice) _ _ tt tt

reversed_backed : (rows : Rows) (v : Reversal) (k : KeptOriginal) (paid : Funds) (day : Option VelocityRow) → is_budget_there rows k.card (payment_of_outcome k.outcome) ≡ true → AreBacked rows (reversed_original v k ∷ (day_put v k day ++ refunded v k paid ∷ []))
reversed_backed rows v k paid None h = (settled_there rows k.card k.outcome _ _ h, (funds_backed rows paid _, tt))
reversed_backed rows v k paid (Some day) h = (settled_there rows k.card k.outcome _ _ h, (tt, (funds_backed rows paid _, tt)))

reversal_backed : (rows : Rows) → HaveBudgets rows → (v : Reversal) → AreBacked rows (carried_out (reversal_plan v) (map.get rows)).writes
reversal_backed rows h v =
    elim (reversal_ways v (map.get rows)) [
      | inl w ↦ these rows [] _ w.writes tt
      | inr w1 ↦ elim w1 [
        | inl w ↦ these rows _ _ w.writes (tt, tt)
        | inr w2 ↦ elim w2 [
          | inl w ↦ these rows [] _ w.writes tt
          | inr w3 ↦ elim w3 [
            | inl w ↦ these rows _ _ w.writes (settled_there rows w.kept.card w.kept.outcome _ _ (h v.original.identity w.kept w.names.stands), tt)
            | inr s ↦ these rows _ _ s.writes (reversed_backed rows v s.kept s.paid s.day (h v.original.identity s.kept s.names.stands))
          ]
        ]
      ]
    ]

writes_backed : (rows : Rows) → HaveBudgets rows → (frame : Frame) → AreBacked rows (writes_of rows frame)
unfolding decision
writes_backed rows h (Frame.Good (Message.Request r)) = request_backed rows r _
writes_backed rows h (Frame.Good (Message.Advice a)) = advice_backed rows a _
writes_backed rows h (Frame.Good (Message.Reversal v)) = reversal_backed rows h v
writes_backed rows h (Frame.Bad fault) = tt

-- a budget that is there stays there
budget_stays : (rows : Rows) (ws : Writes) → AreBacked rows ws → (card : Pan) (p : Payer) → has_budget rows card p ≡ true → has_budget (overlay rows ws) card p ≡ true
budget_stays rows ws backed card (Payer.Account id) h = refl
budget_stays rows ws backed card Payer.Budget h =
    elim (written_or_same (IsBacked rows) rows ws (RowKey.Budget (prefix_of card)) backed) [
      | inl w ↦ ap (λ (o : Option RowVal). is_some (budget_in o)) w.2 ∙ w.1
      | inr same ↦ ap (λ (o : Option RowVal). is_some (budget_in o)) same ∙ h
    ]

payment_stays : (rows : Rows) (ws : Writes) → AreBacked rows ws → (card : Pan) (p : Option Payment) → is_budget_there rows card p ≡ true → is_budget_there (overlay rows ws) card p ≡ true
payment_stays rows ws backed card None h = refl
payment_stays rows ws backed card (Some payment) h = budget_stays rows ws backed card payment.payer h

kept_backed : (rows : Rows) (identity : Identity) (v : RowVal) (k : KeptOriginal) → IsBacked rows (RowKey.Original identity, v) → original_in (Some v) ≡ Some (OriginalRow.Kept k) → is_budget_there rows k.card (payment_of_outcome k.outcome) ≡ true
kept_backed rows identity (RowVal.Kept l) k h e = let same : l ≡ k = cc in subst (λ (x : KeptOriginal). is_budget_there rows x.card (payment_of_outcome x.outcome) ≡ true) same h
kept_backed rows identity (RowVal.Ahead mark) k h e = absurd (cc)
kept_backed rows identity (RowVal.Card row) k h e = absurd (cc)
kept_backed rows identity (RowVal.Velocity row) k h e = absurd (cc)
kept_backed rows identity (RowVal.Budget row) k h e = absurd (cc)
kept_backed rows identity (RowVal.Account row) k h e = absurd (cc)

budgets_behind : (rows : Rows) (frame : Frame) → HaveBudgets rows → HaveBudgets (rows_after_one rows frame)
budgets_behind rows frame h identity k stands =
    let backed : AreBacked rows (writes_of rows frame) = writes_backed rows h frame in
    payment_stays rows (writes_of rows frame) backed k.card (payment_of_outcome k.outcome)
    (elim (written_or_same (IsBacked rows) rows (writes_of rows frame) (RowKey.Original identity) backed) [
      | inl w ↦ kept_backed rows identity w.0 k w.1 (sym (ap original_in w.2) ∙ stands)
      | inr same ↦ h identity k (sym (ap original_in same) ∙ stands)
    ])

pub budgets_stay : (frames : List Frame) (rows : Rows) → HaveBudgets rows → HaveBudgets (rows_after rows frames)
budgets_stay [] rows h = h
budgets_stay (frame ∷ frames) rows h = budgets_stay frames (rows_after_one rows frame) (budgets_behind rows frame h)
