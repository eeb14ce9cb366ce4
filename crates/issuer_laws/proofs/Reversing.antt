-- A full reversal, right after the original that it names: what is given back.
use Rattle.std.proofs.Common.{◌≡◌, ℕ, ◌+◌, ◌-◌, ◌≤◌, Bool, true, false, if◌then◌else◌, ◌&&◌, ◌||◌, ◌==◌, nat_lt, [], ◌∷◌, Option, Some, option_map, refl, sym, ap, ◌∙◌, arith}
use Rattle.std.proofs.lemmas.Bool.Decides.{nat_tests}
use Rattle.issuer_words.specs.Words.{Approval, Funds, KeptOriginal, OriginalKind, OriginalOutcome, OriginalRow, PanPrefix, ReplyBody, Reversal, RowKey, RowVal, Transaction, VelocityRow, account_in, balance_of, budget_in, by_kind, by_payer, day_is_short, day_key, day_of, greatest_balance, identity_of, is_named, is_overfull, key_of_funds, kind_of_outcome, on_original_day, on_paid, on_reversal, on_reversed, original_in, paid_by, payer_of, prefix_of, refunded, reply_to_reversal, reversal_of_outcome, reversal_plan, reversed_original, row_of_funds, spent_less, spent_more, unchanged, velocity_in, with_balance}
use Rattle.iso8583.specs.declared.original_kind.OriginalKind.TheVariants as kind
use Rattle.iso8583.specs.declared.reversal_scope.ReversalScope.TheVariants as scope
use Rattle.issuer_rows.specs.Plan.{Plan, Lookup, Writes, Answer}
use Rattle.issuer_rows.specs.declared.funds.Funds.TheVariants as funds
use Rattle.issuer_rows.specs.declared.original_row.OriginalRow.TheVariants as original
use Rattle.issuer_rows.specs.declared.original_outcome.OriginalOutcome.TheVariants as outcome
use Rattle.issuer_rows.specs.declared.row_key.RowKey.TheVariants as key
use Rattle.issuer_rows.specs.declared.row_val.RowVal.TheVariants as val
use Rattle.issuer_laws.proofs.Funding.{IsOfCard}
use Rattle.issuer_laws.proofs.Keys.{same_text}
use Rattle.issuer_laws.proofs.Repeated.{kept_with}
use Rattle.issuer_laws.specs.Rules.{comes_to}
use Rattle.issuer_laws.specs.Undone.{IsFullReversal}

-- the full reversal of this message
abbrev pub full : Reversal → OriginalKind → Transaction → Reversal
full v k t = record v { scope = scope.Full; original = record { kind = k; repeat = v.original.repeat; identity = identity_of t }; transaction = record v.transaction { pan = t.pan } }

-- a full reversal of a message is that
pub is_full : (v : Reversal) (k : OriginalKind) (t : Transaction) → IsFullReversal v k t → v ≡ full v k t
is_full v k t h = λ i. record { repeat = v.repeat; scope = h.scope i; original = record { kind = h.kind i; repeat = v.original.repeat; identity = h.identity i }; transaction = record v.transaction { pan = h.card i } }

balance_back : (f : Funds) (n : ℕ) → balance_of (with_balance f n) ≡ n
balance_back (funds.Account id row) n = refl
balance_back (funds.Budget prefix row) n = refl

key_back : (f : Funds) (n : ℕ) → key_of_funds (with_balance f n) ≡ key_of_funds f
key_back (funds.Account id row) n = refl
key_back (funds.Budget prefix row) n = refl

-- what is taken and given back is there again
row_back : (f : Funds) (n : ℕ) → n ≤ balance_of f → row_of_funds (with_balance (with_balance f (balance_of f - n)) (balance_of (with_balance f (balance_of f - n)) + n)) ≡ row_of_funds f
row_back (funds.Account id row) n h = let e : (row.available - n) + n ≡ row.available = omega arith in ap (λ (a : ℕ). val.Account (record row { available = a })) e
row_back (funds.Budget prefix row) n h = let e : (row.left - n) + n ≡ row.left = omega arith in ap (λ (a : ℕ). val.Budget (record row { left = a })) e

-- so is the day
day_back : (day : VelocityRow) (n : ℕ) → ◌≡◌ {A = VelocityRow} (record { count = (day.count + 1) - 1; sum = (day.sum + n) - n }) day
day_back day n = let p : (day.count + 1) - 1 ≡ day.count = omega arith in let q : (day.sum + n) - n ≡ day.sum = omega arith in λ i. record { count = p i; sum = q i }

-- what paid is looked at, and found with this balance
paid_found : (look : Lookup) (v : Reversal) (k : KeptOriginal) (f : Funds) (n : ℕ) → IsOfCard k.card f → look (key_of_funds f) ≡ Some (row_of_funds (with_balance f n)) → comes_to (by_payer v k (payer_of f)) look ≡ comes_to (by_kind (kind_of_outcome k.outcome) v k (with_balance f n)) look
paid_found look v k (funds.Account id row) n of_card e = ap (λ (r : Option RowVal). comes_to (on_paid v k (option_map (funds.Account id) (account_in r))) look) e
paid_found look v k (funds.Budget prefix row) n of_card e =
    ap (λ (r : Option RowVal). comes_to (on_paid v k (option_map (funds.Budget (prefix_of k.card)) (budget_in r))) look) (ap (λ (p : PanPrefix). look (key.Budget p)) (sym of_card) ∙ e)
    ∙ ap (λ (p : PanPrefix). comes_to (on_paid v k (Some (funds.Budget p (record row { left = n })))) look) (sym of_card)

not_short : (count sum n : ℕ) → ((true && ((count + 1) == 0)) || nat_lt (sum + n) n) ≡ false
not_short count sum n = grind (arith, nat_tests)

-- reply and rows of a full reversal, unless what paid would have too much
abbrev pub put_back : Reversal → Funds → Writes → ReplyBody × Writes
put_back v f ws = if nat_lt greatest_balance (balance_of f) then (reply_to_reversal v 909, []) else (reply_to_reversal v 400, ws)

-- the row that paid, after the amount was taken from it
abbrev pub is_charged : Lookup → Funds → ℕ → Type 0
is_charged look f n = look (key_of_funds f) ≡ Some (row_of_funds (with_balance f (balance_of f - n)))

in_pairs : (b : Bool) (p q : Plan) (look : Lookup) → comes_to (if b then p else q) look ≡ (if b then comes_to p look else comes_to q look)
in_pairs true p q look = refl
in_pairs false p q look = refl

full_again : (f : Funds) (n : ℕ) → n ≤ balance_of f → nat_lt greatest_balance (balance_of (with_balance f (balance_of f - n)) + n) ≡ nat_lt greatest_balance (balance_of f)
full_again f n h =
    let e : (balance_of f - n) + n ≡ balance_of f = omega arith in
    ap (λ (b : ℕ). nat_lt greatest_balance (b + n)) (balance_back f (balance_of f - n)) ∙ ap (nat_lt greatest_balance) e

-- the row that paid is given back what it was
back_put : (f : Funds) (n : ℕ) → n ≤ balance_of f → ◌≡◌ {A = RowKey × RowVal} (key_of_funds (with_balance f (balance_of f - n)), row_of_funds (with_balance (with_balance f (balance_of f - n)) (balance_of (with_balance f (balance_of f - n)) + n))) (key_of_funds f, row_of_funds f)
back_put f n h = λ i. (key_back f (balance_of f - n) i, row_back f n h i)

-- an original stands, and is named by its full reversal
reaches_payer : (look : Lookup) (v : Reversal) (t : Transaction) (o : OriginalOutcome) (k : OriginalKind) → original_in (look (key.Original (identity_of t))) ≡ Some (original.Kept (kept_with t o)) → is_named (full v k t) (kept_with t o) ≡ true → comes_to (reversal_plan (full v k t)) look ≡ comes_to (on_reversal (full v k t) (kept_with t o) (reversal_of_outcome o)) look
reaches_payer look v t o k e named =
    ap (λ (row : Option OriginalRow). comes_to (on_reversed (full v k t) row) look) e
    ∙ ap (λ (b : Bool). comes_to (if b then on_reversal (full v k t) (kept_with t o) (reversal_of_outcome o) else unchanged (full v k t) 914) look) named

-- the full reversal of a request that was approved
pub request_put_back : (look : Lookup) (v : Reversal) (t : Transaction) (code : Approval) (f : Funds) (day : VelocityRow) → t.amount ≤ balance_of f → IsOfCard t.pan f → original_in (look (key.Original (identity_of t))) ≡ Some (original.Kept (kept_with t (outcome.Approved code (paid_by f)))) → is_charged look f t.amount → look (key.Velocity t.pan (day_of t.stamp)) ≡ Some (val.Velocity (spent_more day t.amount)) → comes_to (reversal_plan (full v kind.Request t)) look ≡ put_back (full v kind.Request t) f (reversed_original (full v kind.Request t) (kept_with t (outcome.Approved code (paid_by f))) ∷ (key.Velocity t.pan (day_of t.stamp), val.Velocity day) ∷ (key_of_funds f, row_of_funds f) ∷ [])
request_put_back look v t code f day covered of_card stands charged spent =
    let w = full v kind.Request t in
    let k = kept_with t (outcome.Approved code (paid_by f)) in
    let g = with_balance f (balance_of f - t.amount) in
    reaches_payer look v t (outcome.Approved code (paid_by f)) kind.Request stands (ap (λ (b : Bool). b && true) (same_text t.pan.0))
    ∙ paid_found look w k f (balance_of f - t.amount) of_card charged
    ∙ ap (λ (r : Option RowVal). comes_to (on_original_day w k g (velocity_in r)) look) spent
    ∙ in_pairs (is_overfull w k g) (unchanged w 909) (if day_is_short w k (spent_more day t.amount) then unchanged w 909 else Answer (reply_to_reversal w 400) (reversed_original w k ∷ (day_key w k, val.Velocity (spent_less w k (spent_more day t.amount))) ∷ refunded w k g ∷ [])) look
    ∙ ap (λ (b : Bool). if is_overfull w k g then (reply_to_reversal w 909, []) else comes_to (if b then unchanged w 909 else Answer (reply_to_reversal w 400) (reversed_original w k ∷ (day_key w k, val.Velocity (spent_less w k (spent_more day t.amount))) ∷ refunded w k g ∷ [])) look) (not_short day.count day.sum t.amount)
    ∙ ap (λ (b : Bool). if b then (reply_to_reversal w 909, []) else (reply_to_reversal w 400, reversed_original w k ∷ (day_key w k, val.Velocity (spent_less w k (spent_more day t.amount))) ∷ refunded w k g ∷ [])) (full_again f t.amount covered)
    ∙ (λ i. put_back w f (reversed_original w k ∷ (day_key w k, val.Velocity (day_back day t.amount i)) ∷ back_put f t.amount covered i ∷ []))

-- the full reversal of an advice that was accepted
pub advice_put_back : (look : Lookup) (v : Reversal) (t : Transaction) (f : Funds) → t.amount ≤ balance_of f → IsOfCard t.pan f → original_in (look (key.Original (identity_of t))) ≡ Some (original.Kept (kept_with t (outcome.Accepted (paid_by f)))) → is_charged look f t.amount → comes_to (reversal_plan (full v kind.Advice t)) look ≡ put_back (full v kind.Advice t) f (reversed_original (full v kind.Advice t) (kept_with t (outcome.Accepted (paid_by f))) ∷ (key_of_funds f, row_of_funds f) ∷ [])
advice_put_back look v t f covered of_card stands charged =
    let w = full v kind.Advice t in
    let k = kept_with t (outcome.Accepted (paid_by f)) in
    let g = with_balance f (balance_of f - t.amount) in
    reaches_payer look v t (outcome.Accepted (paid_by f)) kind.Advice stands (ap (λ (b : Bool). b && true) (same_text t.pan.0))
    ∙ paid_found look w k f (balance_of f - t.amount) of_card charged
    ∙ in_pairs (is_overfull w k g) (unchanged w 909) (Answer (reply_to_reversal w 400) (reversed_original w k ∷ refunded w k g ∷ [])) look
    ∙ ap (λ (b : Bool). if b then (reply_to_reversal w 909, []) else (reply_to_reversal w 400, reversed_original w k ∷ refunded w k g ∷ [])) (full_again f t.amount covered)
    ∙ (λ i. put_back w f (reversed_original w k ∷ back_put f t.amount covered i ∷ []))
