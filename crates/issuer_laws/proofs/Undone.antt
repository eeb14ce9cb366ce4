-- An original and its full reversal leave the money as it was.
use Rattle.std.proofs.Common.{◌≡◌, ◌≢◌, ℕ, ◌≤◌, Bool, true, false, if◌then◌else◌, ◌==◌, not, nat_lt, List, [], ◌∷◌, Option, Some, None, option_map, IsTrue, ◌⊎◌, inl, inr, refl, sym, ap, ◌∙◌, subst, arith}
use Rattle.std.proofs.lemmas.Bool.Decides.{nat_tests}
use Rattle.std.specs.FinMap as map
use Rattle.issuer_words.specs.Words.{AccountRow, Advice, BudgetRow, CardRow, Funds, Lookup, Pan, ReplyBody, Request, Reversal, RowKey, RowVal, Rows, Writes, accepted_writes, account_in, approval_code, approved_writes, available_in, balance_of, budget_in, day_of, decision, greatest_balance, identity_of, key_of_funds, kind_of, left_in, overlay, paid_by, reply_to_reversal, reversal_plan, reversed_original, row_of_funds, spent_in, velocity_in, writes_of}
use Rattle.iso8583.specs.declared.original_kind.OriginalKind.TheVariants as kind
use Rattle.issuer_rows.specs.declared.funds.Funds.TheVariants as funds
use Rattle.issuer_rows.specs.declared.original_outcome.OriginalOutcome.TheVariants as outcome
use Rattle.issuer_rows.specs.declared.row_key.RowKey.TheVariants as key
use Rattle.issuer_rows.specs.declared.row_val.RowVal.TheVariants as val
use Rattle.issuer_laws.proofs.AdviceWays as advice
use Rattle.issuer_laws.proofs.Funding.{IsFound, CanPay}
use Rattle.issuer_laws.proofs.Keys.{get-put, get-other, other_key, same_or_other, funds_other, original_stands}
use Rattle.issuer_laws.proofs.Repeated.{kept_with, request_unseen, advice_unseen}
use Rattle.issuer_laws.proofs.RequestWays as request
use Rattle.issuer_laws.proofs.Reversing.{full, is_full, put_back, request_put_back, advice_put_back}
use Rattle.issuer_laws.specs.Messages.{request_frame, advice_frame, HasAction}
use Rattle.issuer_laws.specs.Rules.{comes_to}
use Rattle.issuer_laws.specs.Undone.{spent_on, IsMoneyAsBefore, IsWithinRange, RequestIsUndone, RequestIsReversed, AdviceIsUndone, AdviceIsReversed}

-- the key is none of those that are written
abbrev IsApart : RowKey → Writes → Type 0
IsApart q [] = Unit {0}
IsApart q (w ∷ ws) = (q ≢ w.0) × IsApart q ws

get-apart : (ws : Writes) (rows : Rows) (q : RowKey) → IsApart q ws → map.get (overlay rows ws) q ≡ map.get rows q
get-apart [] rows q apart = refl
get-apart (w ∷ ws) rows q apart = get-apart ws (map.insert rows w.0 w.1) q apart.1 ∙ get-other rows w.0 w.1 q apart.0

account_stands : (row : Option RowVal) (a : AccountRow) → account_in row ≡ Some a → row ≡ Some (val.Account a)
account_stands None a e = absurd (cc)
account_stands (Some (val.Card r)) a e = absurd (cc)
account_stands (Some (val.Velocity r)) a e = absurd (cc)
account_stands (Some (val.Budget r)) a e = absurd (cc)
account_stands (Some (val.Kept r)) a e = absurd (cc)
account_stands (Some (val.Ahead r)) a e = absurd (cc)
account_stands (Some (val.Account r)) a e = ap (option_map val.Account) e

budget_stands : (row : Option RowVal) (b : BudgetRow) → budget_in row ≡ Some b → row ≡ Some (val.Budget b)
budget_stands None b e = absurd (cc)
budget_stands (Some (val.Card r)) b e = absurd (cc)
budget_stands (Some (val.Velocity r)) b e = absurd (cc)
budget_stands (Some (val.Budget r)) b e = ap (option_map val.Budget) e
budget_stands (Some (val.Kept r)) b e = absurd (cc)
budget_stands (Some (val.Ahead r)) b e = absurd (cc)
budget_stands (Some (val.Account r)) b e = absurd (cc)

-- the funds' row as it was found
found_row : (look : Lookup) (f : Funds) → IsFound look f → look (key_of_funds f) ≡ Some (row_of_funds f)
found_row look (funds.Account id row) e = account_stands (look (key.Account id)) row e
found_row look (funds.Budget prefix row) e = budget_stands (look (key.Budget prefix)) row e

-- funds are no day's row
no_day : (f : Funds) → IsTrue (not (1 == kind_of (key_of_funds f)))
no_day (funds.Account id row) = refl
no_day (funds.Budget prefix row) = refl

day_no_funds : (pan : Pan) (day : List ℕ) (f : Funds) → key.Velocity pan day ≢ key_of_funds f
day_no_funds pan day f = other_key (key.Velocity pan day) (key_of_funds f) (no_day f)

not_over : (most n : ℕ) → n ≤ most → nat_lt most n ≡ false
not_over most n h = grind (arith, nat_tests)

-- funds are within range where all rows are
funds_within : (rows : Rows) (f : Funds) → IsWithinRange rows → IsFound (map.get rows) f → nat_lt greatest_balance (balance_of f) ≡ false
funds_within rows (funds.Account id row) h e = not_over greatest_balance row.available (subst (λ (r : Option AccountRow). available_in r ≤ greatest_balance) e (h.accounts id))
funds_within rows (funds.Budget prefix row) h e = not_over greatest_balance row.left (subst (λ (r : Option BudgetRow). left_in r ≤ greatest_balance) e (h.budgets prefix))

-- a row that is written last, and stands in no other place, is what it was
put_again : (rows : Rows) (ws more : Writes) (f : Funds) (q : RowKey) → map.get rows (key_of_funds f) ≡ Some (row_of_funds f) → (q ≢ key_of_funds f → map.get (overlay (overlay rows ws) more) q ≡ map.get rows q) → map.get (overlay (overlay rows ws) more) (key_of_funds f) ≡ Some (row_of_funds f) → map.get (overlay (overlay rows ws) more) q ≡ map.get rows q
put_again rows ws more f q was apart last =
    elim (same_or_other q (key_of_funds f)) [
      | inl same ↦ ap (map.get (overlay (overlay rows ws) more)) same ∙ last ∙ sym was ∙ ap (map.get rows) (sym same)
      | inr other ↦ apart other
    ]

-- reply and rows of the reversal: it was not refused for too much
not_refused : (v : Reversal) (f : Funds) (ws : Writes) (d : ReplyBody × Writes) → d ≡ put_back v f ws → HasAction 400 d.0 → nat_lt greatest_balance (balance_of f) ≡ false
not_refused v f ws d e h =
    elim (nat_lt greatest_balance (balance_of f)) as (λ b. d ≡ (if b then (reply_to_reversal v 909, []) else (reply_to_reversal v 400, ws)) → b ≡ false) [
      | true ↦ λ p. let x : ◌≡◌ {A = ℕ} 909 400 = subst (HasAction 400) (ap (λ (o : ReplyBody × Writes). o.0) p) h in absurd (omega (arith, x))
      | false ↦ λ p. refl
    ] e

rows_put : (v : Reversal) (f : Funds) (ws : Writes) (d : ReplyBody × Writes) → d ≡ put_back v f ws → nat_lt greatest_balance (balance_of f) ≡ false → d ≡ (reply_to_reversal v 400, ws)
rows_put v f ws d e within = e ∙ ap (λ (b : Bool). if b then (reply_to_reversal v 909, []) else (reply_to_reversal v 400, ws)) within

-- what an approved request writes
abbrev approval : Rows → Request → CardRow → Funds → Writes
approval rows r card f = approved_writes r card (spent_on rows r.transaction.pan (day_of r.transaction.stamp)) f

-- what its full reversal writes
abbrev approval_back : Rows → Request → CardRow → Funds → Reversal → Writes
approval_back rows r card f v =
    reversed_original (full v kind.Request r.transaction) (kept_with r.transaction (outcome.Approved (approval_code card) (paid_by f)))
    ∷ (key.Velocity r.transaction.pan (day_of r.transaction.stamp), val.Velocity (spent_on rows r.transaction.pan (day_of r.transaction.stamp)))
    ∷ (key_of_funds f, row_of_funds f)
    ∷ []

approval_comes : (rows : Rows) (r : Request) (card : CardRow) (f : Funds) (v : Reversal) → CanPay (map.get rows) r.transaction f → comes_to (reversal_plan (full v kind.Request r.transaction)) (map.get (overlay rows (approval rows r card f))) ≡ put_back (full v kind.Request r.transaction) f (approval_back rows r card f v)
approval_comes rows r card f v pays =
    let t = r.transaction in
    request_put_back (map.get (overlay rows (approval rows r card f))) v t (approval_code card) f (spent_on rows t.pan (day_of t.stamp)) pays.covered pays.of_card
    (original_stands rows (identity_of t) _ (approval rows r card f) _ refl (refl, (refl, (funds_other f, tt))))
    (get-put _ (key_of_funds f) _)
    (get-other _ (key_of_funds f) _ (key.Velocity t.pan (day_of t.stamp)) (day_no_funds t.pan (day_of t.stamp) f) ∙ get-put _ (key.Velocity t.pan (day_of t.stamp)) _)

-- the money after both
approval_money : (rows : Rows) (r : Request) (card : CardRow) (f : Funds) (v : Reversal) → IsFound (map.get rows) f → IsMoneyAsBefore rows (overlay (overlay rows (approval rows r card f)) (approval_back rows r card f v))
approval_money rows r card f v found = record {
  accounts = λ id.
      put_again rows (approval rows r card f) (approval_back rows r card f v) f (key.Account id) (found_row (map.get rows) f found)
      (λ other. get-apart (approval_back rows r card f v) _ (key.Account id) (other_key _ _ refl, (other_key _ _ refl, (other, tt))) ∙ get-apart (approval rows r card f) rows (key.Account id) (other_key _ _ refl, (other_key _ _ refl, (other_key _ _ refl, (other, tt)))))
      (get-put _ (key_of_funds f) _);
  budgets = λ prefix.
      put_again rows (approval rows r card f) (approval_back rows r card f v) f (key.Budget prefix) (found_row (map.get rows) f found)
      (λ other. get-apart (approval_back rows r card f v) _ (key.Budget prefix) (other_key _ _ refl, (other_key _ _ refl, (other, tt))) ∙ get-apart (approval rows r card f) rows (key.Budget prefix) (other_key _ _ refl, (other_key _ _ refl, (other_key _ _ refl, (other, tt)))))
      (get-put _ (key_of_funds f) _);
  days = λ pan day.
      elim (same_or_other (key.Velocity pan day) (key.Velocity r.transaction.pan (day_of r.transaction.stamp))) [
        | inl same ↦
            ap (λ (q : RowKey). spent_in (velocity_in (map.get (overlay (overlay rows (approval rows r card f)) (approval_back rows r card f v)) q))) same
            ∙ ap (λ (row : Option RowVal). spent_in (velocity_in row)) (get-other _ (key_of_funds f) _ (key.Velocity r.transaction.pan (day_of r.transaction.stamp)) (day_no_funds r.transaction.pan (day_of r.transaction.stamp) f) ∙ get-put _ (key.Velocity r.transaction.pan (day_of r.transaction.stamp)) _)
            ∙ ap (λ (q : RowKey). spent_in (velocity_in (map.get rows q))) (sym same)
        | inr other ↦
            ap (λ (row : Option RowVal). spent_in (velocity_in row))
            (get-apart (approval_back rows r card f v) _ (key.Velocity pan day) (other_key _ _ refl, (other, (day_no_funds pan day f, tt))) ∙ get-apart (approval rows r card f) rows (key.Velocity pan day) (other_key _ _ refl, (other_key _ _ refl, (other, (day_no_funds pan day f, tt)))))
      ];
}

-- what the full reversal of an accepted advice writes
abbrev acceptance_back : Advice → Funds → Reversal → Writes
acceptance_back a f v =
    reversed_original (full v kind.Advice a.transaction) (kept_with a.transaction (outcome.Accepted (paid_by f))) ∷ (key_of_funds f, row_of_funds f) ∷ []

acceptance_comes : (rows : Rows) (a : Advice) (f : Funds) (v : Reversal) → CanPay (map.get rows) a.transaction f → comes_to (reversal_plan (full v kind.Advice a.transaction)) (map.get (overlay rows (accepted_writes a f))) ≡ put_back (full v kind.Advice a.transaction) f (acceptance_back a f v)
acceptance_comes rows a f v pays =
    let t = a.transaction in
    advice_put_back (map.get (overlay rows (accepted_writes a f))) v t f pays.covered pays.of_card
    (original_stands rows (identity_of t) _ (accepted_writes a f) _ refl (funds_other f, tt))
    (get-put _ (key_of_funds f) _)

acceptance_money : (rows : Rows) (a : Advice) (f : Funds) (v : Reversal) → IsFound (map.get rows) f → IsMoneyAsBefore rows (overlay (overlay rows (accepted_writes a f)) (acceptance_back a f v))
acceptance_money rows a f v found = record {
  accounts = λ id.
      put_again rows (accepted_writes a f) (acceptance_back a f v) f (key.Account id) (found_row (map.get rows) f found)
      (λ other. get-apart (acceptance_back a f v) _ (key.Account id) (other_key _ _ refl, (other, tt)) ∙ get-apart (accepted_writes a f) rows (key.Account id) (other_key _ _ refl, (other, tt)))
      (get-put _ (key_of_funds f) _);
  budgets = λ prefix.
      put_again rows (accepted_writes a f) (acceptance_back a f v) f (key.Budget prefix) (found_row (map.get rows) f found)
      (λ other. get-apart (acceptance_back a f v) _ (key.Budget prefix) (other_key _ _ refl, (other, tt)) ∙ get-apart (accepted_writes a f) rows (key.Budget prefix) (other_key _ _ refl, (other, tt)))
      (get-put _ (key_of_funds f) _);
  days = λ pan day.
      ap (λ (row : Option RowVal). spent_in (velocity_in row))
      (get-apart (acceptance_back a f v) _ (key.Velocity pan day) (other_key _ _ refl, (day_no_funds pan day f, tt)) ∙ get-apart (accepted_writes a f) rows (key.Velocity pan day) (other_key _ _ refl, (day_no_funds pan day f, tt)));
}

-- what both write, on the rows before
money_after : (rows : Rows) (first second ws more : Writes) → first ≡ ws → second ≡ more → IsMoneyAsBefore rows (overlay (overlay rows ws) more) → IsMoneyAsBefore rows (overlay (overlay rows first) second)
money_after rows first second ws more e f h = subst (λ (p : Writes × Writes). IsMoneyAsBefore rows (overlay (overlay rows p.0) p.1)) (λ i. (sym e i, sym f i)) h

-- the reversal's reply and rows, on the rows that its original left
comes_after : (rows : Rows) (first ws : Writes) (v w : Reversal) (d : ReplyBody × Writes) → v ≡ w → first ≡ ws → comes_to (reversal_plan w) (map.get (overlay rows ws)) ≡ d → comes_to (reversal_plan v) (map.get (overlay rows first)) ≡ d
comes_after rows first ws v w d e f h = ap (λ (x : Reversal). comes_to (reversal_plan x) (map.get (overlay rows first))) e ∙ ap (λ (x : Writes). comes_to (reversal_plan w) (map.get (overlay rows x))) f ∙ h

-- a request that is answered 000 was approved
pub was_approved : (r : Request) (look : Lookup) (reply : ReplyBody) (writes : Writes) → request.Declines r reply writes ⊎ request.Approves r look reply writes → HasAction 0 reply → request.Approves r look reply writes
was_approved r look reply writes (inl d) h = let e : d.action ≡ 0 = subst (HasAction 0) d.reply h in absurd (omega (arith, e, d.declined))
was_approved r look reply writes (inr a) h = a

-- an advice that is answered 901 was accepted
was_accepted : (a : Advice) (look : Lookup) (reply : ReplyBody) (writes : Writes) → advice.Acknowledges a reply writes ⊎ advice.Accepts a look reply writes → HasAction 901 reply → advice.Accepts a look reply writes
was_accepted a look reply writes (inl d) h = let e : ◌≡◌ {A = ℕ} 900 901 = subst (HasAction 901) d.reply h in absurd (omega (arith, e))
was_accepted a look reply writes (inr w) h = w

pub request_undone : (rows : Rows) (r : Request) (v : Reversal) → RequestIsUndone rows r v
unfolding decision
request_undone rows r v first whole reversed =
    let a = was_approved r (map.get rows) _ _ (request_unseen r (map.get rows) first.0) first.1 in
    let w = full v kind.Request r.transaction in
    let comes = comes_after rows (writes_of rows (request_frame r)) (approval rows r a.card a.paying) v w _ (is_full v kind.Request r.transaction whole) a.writes (approval_comes rows r a.card a.paying v a.pays) in
    let put = rows_put w a.paying _ _ comes (not_refused w a.paying _ _ comes reversed) in
    money_after rows _ _ _ _ a.writes (ap (λ (o : ReplyBody × Writes). o.1) put) (approval_money rows r a.card a.paying v a.pays.found)

pub request_reversed : (rows : Rows) (r : Request) (v : Reversal) → RequestIsReversed rows r v
unfolding decision
request_reversed rows r v first whole range =
    let a = was_approved r (map.get rows) _ _ (request_unseen r (map.get rows) first.0) first.1 in
    let w = full v kind.Request r.transaction in
    let comes = comes_after rows (writes_of rows (request_frame r)) (approval rows r a.card a.paying) v w _ (is_full v kind.Request r.transaction whole) a.writes (approval_comes rows r a.card a.paying v a.pays) in
    let put = rows_put w a.paying _ _ comes (funds_within rows a.paying range a.pays.found) in
    subst (HasAction 400) (sym (ap (λ (o : ReplyBody × Writes). o.0) put)) refl

pub advice_undone : (rows : Rows) (a : Advice) (v : Reversal) → AdviceIsUndone rows a v
unfolding decision
advice_undone rows a v first whole reversed =
    let s = was_accepted a (map.get rows) _ _ (advice_unseen a (map.get rows) first.0) first.1 in
    let w = full v kind.Advice a.transaction in
    let comes = comes_after rows (writes_of rows (advice_frame a)) (accepted_writes a s.paying) v w _ (is_full v kind.Advice a.transaction whole) s.writes (acceptance_comes rows a s.paying v s.pays) in
    let put = rows_put w s.paying _ _ comes (not_refused w s.paying _ _ comes reversed) in
    money_after rows _ _ _ _ s.writes (ap (λ (o : ReplyBody × Writes). o.1) put) (acceptance_money rows a s.paying v s.pays.found)

pub advice_reversed : (rows : Rows) (a : Advice) (v : Reversal) → AdviceIsReversed rows a v
unfolding decision
advice_reversed rows a v first whole range =
    let s = was_accepted a (map.get rows) _ _ (advice_unseen a (map.get rows) first.0) first.1 in
    let w = full v kind.Advice a.transaction in
    let comes = comes_after rows (writes_of rows (advice_frame a)) (accepted_writes a s.paying) v w _ (is_full v kind.Advice a.transaction whole) s.writes (acceptance_comes rows a s.paying v s.pays) in
    let put = rows_put w s.paying _ _ comes (funds_within rows s.paying range s.pays.found) in
    subst (HasAction 400) (sym (ap (λ (o : ReplyBody × Writes). o.0) put)) refl
