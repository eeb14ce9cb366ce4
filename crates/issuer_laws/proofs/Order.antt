-- Messages that share no row are decided alike in either order.
use Rattle.std.proofs.Common.{◌≡◌, ◌≢◌, ℕ, Bool, true, false, if◌then◌else◌, ◌&&◌, ◌||◌, ◌==◌, nat_lt, nat_le, List, [], ◌∷◌, Option, Some, None, Result, Ok, Err, option_map, ◌⊎◌, inl, inr, refl, sym, ap, ◌∙◌, subst}
use Rattle.std.specs.FinMap as map
use Rattle.std.specs.List.{AllByRecursion}
use Rattle.issuer_words.specs.Words.{AccountId, AccountRow, Advice, BudgetMode, BudgetRow, CardRow, Decided, Frame, Funds, Identity, KeptOriginal, Look, Lookup, Message, OriginalKind, OriginalRow, Payer, Payment, Plan, Request, Reversal, RowKey, RowVal, Rows, Transaction, VelocityRow, Writes, account_in, account_of, budget_in, card_in, carried_out, day_of, decision, identity_of, is_marked, is_of_same, is_same_currency, is_same_identity, key_of_funds, kind_of_outcome, original_in, overlay, payment_of_outcome, prefix_of, reversal_of_outcome, rows_after_one, spent_in, velocity_in, writes_of}
use Rattle.issuer_rows.proofs.KeyLaws.{key_cmp_total, key_cmp_antisymmetric}
use Rattle.issuer_rows.specs.AdviceTable as advice
use Rattle.issuer_rows.specs.RequestTable as request
use Rattle.issuer_rows.specs.ReversalTable as reversal
use Rattle.issuer_laws.proofs.Keys.{get-put, same_or_other}
use Rattle.issuer_laws.proofs.Parts.{each_of, same_decision, same_behind, unwritten}
use Rattle.issuer_laws.specs.Order.{ShareNoRow, TakeAnyOrder}
use Rattle.issuer_laws.specs.Parts.{IsIn}

-- ---- each row that is written was looked at

-- a plan writes rows that were looked at before, or that it looks at
abbrev WritesSeen : (RowKey → Type 0) → Lookup → Plan → Type 0
WritesSeen S look plan = AllByRecursion (λ w. S w.0 ⊎ IsIn w.0 (carried_out plan look).needs) (carried_out plan look).writes

-- one more row is looked at
abbrev OrThis : (RowKey → Type 0) → RowKey → RowKey → Type 0
OrThis S key q = (q ≡ key) ⊎ S q

looked : (S : RowKey → Type 0) (look : Lookup) (key : RowKey) (next : Option RowVal → Plan) → WritesSeen (OrThis S key) look (next (look key)) → WritesSeen S look (Look key next)
looked S look key next h =
    each_of (λ w. OrThis S key w.0 ⊎ IsIn w.0 (carried_out (next (look key)) look).needs) (λ w. S w.0 ⊎ IsIn w.0 (key ∷ (carried_out (next (look key)) look).needs)) (carried_out (next (look key)) look).writes
    (λ w seen. elim seen [
      | inl before ↦ elim before [
        | inl this ↦ inr (inl this)
        | inr earlier ↦ inl earlier
      ]
      | inr later ↦ inr (inr later)
    ])
    h

either : (S : RowKey → Type 0) (look : Lookup) (b : Bool) (p q : Plan) → WritesSeen S look p → WritesSeen S look q → WritesSeen S look (if b then p else q)
either S look true p q x y = x
either S look false p q x y = y

-- what pays is this account, or the budget of the card's prefix
abbrev PaysFrom : AccountId → Transaction → Funds → Type 0
PaysFrom id t f = (key_of_funds f ≡ RowKey.Account id) ⊎ (key_of_funds f ≡ RowKey.Budget (prefix_of t.pan))

pays_seen : (S : RowKey → Type 0) (id : AccountId) (t : Transaction) (f : Funds) → PaysFrom id t f → S (RowKey.Account id) → S (RowKey.Budget (prefix_of t.pan)) → S (key_of_funds f)
pays_seen S id t f (inl e) a b = subst S (sym e) a
pays_seen S id t f (inr e) a b = subst S (sym e) b

-- a request
abbrev RequestPays : AccountId → Transaction → Result Funds ℕ → Type 0
RequestPays id t (Ok f) = PaysFrom id t f
RequestPays id t (Err action) = Unit {0}

either_pays : (id : AccountId) (t : Transaction) (b : Bool) (x y : Result Funds ℕ) → RequestPays id t x → RequestPays id t y → RequestPays id t (if b then x else y)
either_pays id t true x y h k = h
either_pays id t false x y h k = k

mode_pays : (id : AccountId) (t : Transaction) (m : BudgetMode) (x y : Result Funds ℕ) → RequestPays id t x → RequestPays id t y → RequestPays id t (request.by_mode m x y)
mode_pays id t BudgetMode.StandIn x y h k = h
mode_pays id t BudgetMode.Direct x y h k = k

account_pays : (id : AccountId) (t : Transaction) (account : AccountRow) → RequestPays id t (request.account_funds t id account)
account_pays id t account = either_pays id t (nat_lt account.available t.amount) (Err 116) (Ok (Funds.Account id account)) tt (inl refl)

request_pays : (id : AccountId) (t : Transaction) (account : AccountRow) (budget : Option BudgetRow) → RequestPays id t (request.request_funds t id account budget)
request_pays id t account None = account_pays id t account
request_pays id t account (Some budget) =
    mode_pays id t budget.mode (request.budget_funds t budget) (request.account_funds t id account)
    (either_pays id t (nat_lt budget.cap t.amount || nat_lt budget.left t.amount) (Err 907) (Ok (Funds.Budget (prefix_of t.pan) budget)) tt (inr refl))
    (account_pays id t account)

-- the rows that a request has looked at
record SeenByRequest (S : RowKey → Type 0) (r : Request) : Type 0 where
  original : S (RowKey.Original (identity_of r.transaction))
  card : S (RowKey.Card r.transaction.pan)

still : (S : RowKey → Type 0) (r : Request) (key : RowKey) → SeenByRequest S r → SeenByRequest (OrThis S key) r
still S r key seen = record { original = inr seen.original; card = inr seen.card }

unless : (S : RowKey → Type 0) (look : Lookup) (r : Request) → S (RowKey.Original (identity_of r.transaction)) → (refused : Option ℕ) (next : Plan) → WritesSeen S look next → WritesSeen S look (request.unless_refused r refused next)
unless S look r s (Some action) next h = (inl s, tt)
unless S look r s None next h = h

on_funds_seen : (S : RowKey → Type 0) (look : Lookup) (r : Request) (card : CardRow) (day : VelocityRow) (id : AccountId) → SeenByRequest S r → S (RowKey.Account id) → S (RowKey.Velocity r.transaction.pan (day_of r.transaction.stamp)) → S (RowKey.Budget (prefix_of r.transaction.pan)) → (found : Result Funds ℕ) → RequestPays id r.transaction found → WritesSeen S look (request.on_funds r card day found)
on_funds_seen S look r card day id seen a v b (Err action) pays = (inl seen.original, tt)
on_funds_seen S look r card day id seen a v b (Ok f) pays = (inl seen.original, (inl seen.card, (inl v, (inl (pays_seen S id r.transaction f pays a b), tt))))

on_day_seen : (S : RowKey → Type 0) (look : Lookup) (r : Request) (card : CardRow) (id : AccountId) (account : AccountRow) (day : VelocityRow) → SeenByRequest S r → S (RowKey.Account id) → S (RowKey.Velocity r.transaction.pan (day_of r.transaction.stamp)) → WritesSeen S look (request.on_day r card id account day)
on_day_seen S look r card id account day seen a v =
    unless S look r seen.original (request.refused_by_limits r card day) _
    (looked S look (RowKey.Budget (prefix_of r.transaction.pan)) (λ row. request.on_funds r card day (request.request_funds r.transaction id account (budget_in row)))
    (on_funds_seen (OrThis S (RowKey.Budget (prefix_of r.transaction.pan))) look r card day id (still S r _ seen) (inr a) (inr v) (inl refl) _ (request_pays id r.transaction account (budget_in (look (RowKey.Budget (prefix_of r.transaction.pan)))))))

on_account_seen : (S : RowKey → Type 0) (look : Lookup) (r : Request) (card : CardRow) (id : AccountId) → SeenByRequest S r → S (RowKey.Account id) → (account : Option AccountRow) → WritesSeen S look (request.on_account r card id account)
on_account_seen S look r card id seen a None = (inl seen.original, tt)
on_account_seen S look r card id seen a (Some account) =
    either S look (is_same_currency r.transaction.currency account.currency) _ _
    (looked S look (RowKey.Velocity r.transaction.pan (day_of r.transaction.stamp)) (λ row. request.on_day r card id account (spent_in (velocity_in row)))
    (on_day_seen (OrThis S (RowKey.Velocity r.transaction.pan (day_of r.transaction.stamp))) look r card id account _ (still S r _ seen) (inr a) (inl refl)))
    (inl seen.original, tt)

on_usable_seen : (S : RowKey → Type 0) (look : Lookup) (r : Request) (card : CardRow) → SeenByRequest S r → (usable : Result AccountId ℕ) → WritesSeen S look (request.on_usable r card usable)
on_usable_seen S look r card seen (Err action) = (inl seen.original, tt)
on_usable_seen S look r card seen (Ok id) =
    looked S look (RowKey.Account id) (λ row. request.on_account r card id (account_in row)) (on_account_seen (OrThis S (RowKey.Account id)) look r card id (still S r _ seen) (inl refl) (account_in (look (RowKey.Account id))))

on_card_seen : (S : RowKey → Type 0) (look : Lookup) (r : Request) → SeenByRequest S r → (card : Option CardRow) → WritesSeen S look (request.on_card r card)
on_card_seen S look r seen None = (inl seen.original, tt)
on_card_seen S look r seen (Some card) = on_usable_seen S look r card seen (request.usable_account r card)

request_seen : (S : RowKey → Type 0) (look : Lookup) (r : Request) → S (RowKey.Original (identity_of r.transaction)) → (row : Option OriginalRow) → WritesSeen S look (request.on_original r row)
request_seen S look r s None =
    unless S look r s (request.refused_unseen r) _
    (looked S look (RowKey.Card r.transaction.pan) (λ row. request.on_card r (card_in row))
    (on_card_seen (OrThis S (RowKey.Card r.transaction.pan)) look r (record { original = inr s; card = inl refl }) (card_in (look (RowKey.Card r.transaction.pan)))))
request_seen S look r s (Some (OriginalRow.Ahead mark)) = either S look (is_marked mark r.transaction OriginalKind.Request) _ _ (inl s, tt) tt
request_seen S look r s (Some (OriginalRow.Kept k)) = either S look (r.repeat && is_of_same k r.transaction OriginalKind.Request) _ _ tt tt

-- an advice
abbrev AdvicePays : AccountId → Transaction → Option Funds → Type 0
AdvicePays id t (Some f) = PaysFrom id t f
AdvicePays id t None = Unit {0}

either_covers : (id : AccountId) (t : Transaction) (b : Bool) (x y : Option Funds) → AdvicePays id t x → AdvicePays id t y → AdvicePays id t (if b then x else y)
either_covers id t true x y h k = h
either_covers id t false x y h k = k

account_covers : (id : AccountId) (t : Transaction) (account : AccountRow) → AdvicePays id t (advice.account_if_covered t id account)
account_covers id t account = either_covers id t (nat_le t.amount account.available) (Some (Funds.Account id account)) None (inl refl) tt

budget_covers : (id : AccountId) (t : Transaction) (m : BudgetMode) (budget : BudgetRow) (else_so : Option Funds) → AdvicePays id t else_so → AdvicePays id t (advice.budget_by_mode m t budget else_so)
budget_covers id t BudgetMode.StandIn budget else_so h = either_covers id t (nat_le t.amount budget.cap && nat_le t.amount budget.left) (Some (Funds.Budget (prefix_of t.pan) budget)) else_so (inr refl) h
budget_covers id t BudgetMode.Direct budget else_so h = h

advice_pays : (id : AccountId) (t : Transaction) (account : AccountRow) (budget : Option BudgetRow) → AdvicePays id t (advice.advice_funds t id account budget)
advice_pays id t account None = account_covers id t account
advice_pays id t account (Some budget) = budget_covers id t budget.mode budget (advice.account_if_covered t id account) (account_covers id t account)

advice_on_funds_seen : (S : RowKey → Type 0) (look : Lookup) (a : Advice) (id : AccountId) → S (RowKey.Original (identity_of a.transaction)) → S (RowKey.Account id) → S (RowKey.Budget (prefix_of a.transaction.pan)) → (found : Option Funds) → AdvicePays id a.transaction found → WritesSeen S look (advice.advice_on_funds a found)
advice_on_funds_seen S look a id s own b None pays = (inl s, tt)
advice_on_funds_seen S look a id s own b (Some f) pays = (inl s, (inl (pays_seen S id a.transaction f pays own b), tt))

advice_on_account_seen : (S : RowKey → Type 0) (look : Lookup) (a : Advice) (id : AccountId) → S (RowKey.Original (identity_of a.transaction)) → S (RowKey.Account id) → (account : Option AccountRow) → WritesSeen S look (advice.advice_on_account a id account)
advice_on_account_seen S look a id s own None = (inl s, tt)
advice_on_account_seen S look a id s own (Some account) =
    either S look (is_same_currency a.transaction.currency account.currency) _ _
    (looked S look (RowKey.Budget (prefix_of a.transaction.pan)) (λ row. advice.advice_on_funds a (advice.advice_funds a.transaction id account (budget_in row)))
    (advice_on_funds_seen (OrThis S (RowKey.Budget (prefix_of a.transaction.pan))) look a id (inr s) (inr own) (inl refl) _ (advice_pays id a.transaction account (budget_in (look (RowKey.Budget (prefix_of a.transaction.pan)))))))
    (inl s, tt)

advice_on_named_seen : (S : RowKey → Type 0) (look : Lookup) (a : Advice) → S (RowKey.Original (identity_of a.transaction)) → (named : Option AccountId) → WritesSeen S look (advice.advice_on_named a named)
advice_on_named_seen S look a s None = (inl s, tt)
advice_on_named_seen S look a s (Some id) =
    looked S look (RowKey.Account id) (λ row. advice.advice_on_account a id (account_in row)) (advice_on_account_seen (OrThis S (RowKey.Account id)) look a id (inr s) (inl refl) (account_in (look (RowKey.Account id))))

advice_on_card_seen : (S : RowKey → Type 0) (look : Lookup) (a : Advice) → S (RowKey.Original (identity_of a.transaction)) → (card : Option CardRow) → WritesSeen S look (advice.advice_on_card a card)
advice_on_card_seen S look a s None = (inl s, tt)
advice_on_card_seen S look a s (Some card) = advice_on_named_seen S look a s (account_of card.accounts a.account)

advice_seen : (S : RowKey → Type 0) (look : Lookup) (a : Advice) → S (RowKey.Original (identity_of a.transaction)) → (row : Option OriginalRow) → WritesSeen S look (advice.advice_on_original a row)
advice_seen S look a s None =
    either S look (a.action == 0) _ _
    (looked S look (RowKey.Card a.transaction.pan) (λ row. advice.advice_on_card a (card_in row)) (advice_on_card_seen (OrThis S (RowKey.Card a.transaction.pan)) look a (inr s) (card_in (look (RowKey.Card a.transaction.pan)))))
    (inl s, tt)
advice_seen S look a s (Some (OriginalRow.Ahead mark)) = either S look (is_marked mark a.transaction OriginalKind.Advice) _ _ (inl s, tt) tt
advice_seen S look a s (Some (OriginalRow.Kept k)) = either S look (a.repeat && is_of_same k a.transaction OriginalKind.Advice) _ _ tt tt

-- a reversal
on_day_back_seen : (S : RowKey → Type 0) (look : Lookup) (v : Reversal) (k : KeptOriginal) (paid : Funds) → S (RowKey.Original v.original.identity) → S (key_of_funds paid) → S (reversal.day_key v k) → (day : Option VelocityRow) → WritesSeen S look (reversal.on_original_day v k paid day)
on_day_back_seen S look v k paid s p d None = tt
on_day_back_seen S look v k paid s p d (Some day) =
    either S look (reversal.is_overfull v k paid) _ _ tt (either S look (reversal.day_is_short v k day) _ _ tt (inl s, (inl d, (inl p, tt))))

by_kind_seen : (S : RowKey → Type 0) (look : Lookup) (v : Reversal) (k : KeptOriginal) (paid : Funds) → S (RowKey.Original v.original.identity) → S (key_of_funds paid) → (kind : OriginalKind) → WritesSeen S look (reversal.by_kind kind v k paid)
by_kind_seen S look v k paid s p OriginalKind.Request =
    looked S look (reversal.day_key v k) (λ row. reversal.on_original_day v k paid (velocity_in row)) (on_day_back_seen (OrThis S (reversal.day_key v k)) look v k paid (inr s) (inr p) (inl refl) (velocity_in (look (reversal.day_key v k))))
by_kind_seen S look v k paid s p OriginalKind.Advice = either S look (reversal.is_overfull v k paid) _ _ tt (inl s, (inl p, tt))

on_account_back_seen : (S : RowKey → Type 0) (look : Lookup) (v : Reversal) (k : KeptOriginal) (id : AccountId) → S (RowKey.Original v.original.identity) → S (RowKey.Account id) → (row : Option AccountRow) → WritesSeen S look (reversal.on_paid v k (option_map (Funds.Account id) row))
on_account_back_seen S look v k id s p None = tt
on_account_back_seen S look v k id s p (Some row) = by_kind_seen S look v k (Funds.Account id row) s p (kind_of_outcome k.outcome)

on_budget_back_seen : (S : RowKey → Type 0) (look : Lookup) (v : Reversal) (k : KeptOriginal) → S (RowKey.Original v.original.identity) → S (RowKey.Budget (prefix_of k.card)) → (row : Option BudgetRow) → WritesSeen S look (reversal.on_paid v k (option_map (Funds.Budget (prefix_of k.card)) row))
on_budget_back_seen S look v k s p None = tt
on_budget_back_seen S look v k s p (Some row) = by_kind_seen S look v k (Funds.Budget (prefix_of k.card) row) s p (kind_of_outcome k.outcome)

by_payer_seen : (S : RowKey → Type 0) (look : Lookup) (v : Reversal) (k : KeptOriginal) → S (RowKey.Original v.original.identity) → (p : Payer) → WritesSeen S look (reversal.by_payer v k p)
by_payer_seen S look v k s (Payer.Account id) =
    looked S look (RowKey.Account id) (λ row. reversal.on_paid v k (option_map (Funds.Account id) (account_in row))) (on_account_back_seen (OrThis S (RowKey.Account id)) look v k id (inr s) (inl refl) (account_in (look (RowKey.Account id))))
by_payer_seen S look v k s Payer.Budget =
    looked S look (RowKey.Budget (prefix_of k.card)) (λ row. reversal.on_paid v k (option_map (Funds.Budget (prefix_of k.card)) (budget_in row))) (on_budget_back_seen (OrThis S (RowKey.Budget (prefix_of k.card))) look v k (inr s) (inl refl) (budget_in (look (RowKey.Budget (prefix_of k.card)))))

on_payment_seen : (S : RowKey → Type 0) (look : Lookup) (v : Reversal) (k : KeptOriginal) → S (RowKey.Original v.original.identity) → (payment : Option Payment) → WritesSeen S look (reversal.on_payment v k payment)
on_payment_seen S look v k s None = (inl s, tt)
on_payment_seen S look v k s (Some payment) = either S look (reversal.is_wrong_part v.scope v.transaction.amount k.amount) _ _ tt (by_payer_seen S look v k s payment.payer)

on_reversal_seen : (S : RowKey → Type 0) (look : Lookup) (v : Reversal) (k : KeptOriginal) → S (RowKey.Original v.original.identity) → (by : Option Identity) → WritesSeen S look (reversal.on_reversal v k by)
on_reversal_seen S look v k s (Some by) = either S look (v.repeat && is_same_identity by (identity_of v.transaction)) _ _ tt tt
on_reversal_seen S look v k s None = on_payment_seen S look v k s (payment_of_outcome k.outcome)

reversal_seen : (S : RowKey → Type 0) (look : Lookup) (v : Reversal) → S (RowKey.Original v.original.identity) → (row : Option OriginalRow) → WritesSeen S look (reversal.on_reversed v row)
reversal_seen S look v s None = (inl s, tt)
reversal_seen S look v s (Some (OriginalRow.Ahead mark)) = tt
reversal_seen S look v s (Some (OriginalRow.Kept k)) = either S look (reversal.is_named v k) _ _ (on_reversal_seen S look v k s (reversal_of_outcome k.outcome)) tt

-- nothing was looked at before
abbrev Nothing : RowKey → Type 0
Nothing q = ⊥

writes_seen : (look : Lookup) (frame : Frame) → AllByRecursion (λ w. Nothing w.0 ⊎ IsIn w.0 (decision look frame).needs) (decision look frame).writes
unfolding decision
writes_seen look (Frame.Good (Message.Request r)) =
    looked Nothing look (RowKey.Original (identity_of r.transaction)) (λ row. request.on_original r (original_in row)) (request_seen (OrThis Nothing (RowKey.Original (identity_of r.transaction))) look r (inl refl) (original_in (look (RowKey.Original (identity_of r.transaction)))))
writes_seen look (Frame.Good (Message.Advice a)) =
    looked Nothing look (RowKey.Original (identity_of a.transaction)) (λ row. advice.advice_on_original a (original_in row)) (advice_seen (OrThis Nothing (RowKey.Original (identity_of a.transaction))) look a (inl refl) (original_in (look (RowKey.Original (identity_of a.transaction)))))
writes_seen look (Frame.Good (Message.Reversal v)) =
    looked Nothing look (RowKey.Original v.original.identity) (λ row. reversal.on_reversed v (original_in row)) (reversal_seen (OrThis Nothing (RowKey.Original v.original.identity)) look v (inl refl) (original_in (look (RowKey.Original v.original.identity))))
writes_seen look (Frame.Bad fault) = tt

-- what is written is needed
written_is_needed : (rows : Rows) (frame : Frame) → AllByRecursion (λ w. IsIn w.0 (decision (map.get rows) frame).needs) (writes_of rows frame)
written_is_needed rows frame =
    each_of (λ w. Nothing w.0 ⊎ IsIn w.0 (decision (map.get rows) frame).needs) (λ w. IsIn w.0 (decision (map.get rows) frame).needs) (writes_of rows frame)
    (λ w seen. elim seen [
      | inl never ↦ absurd never
      | inr needed ↦ needed
    ])
    (writes_seen (map.get rows) frame)

-- ---- either order

each_in : {A : Type 0} (Q : A → Type 0) (xs : List A) → ((x : A) → IsIn x xs → Q x) → AllByRecursion Q xs
each_in Q [] f = tt
each_in Q (x ∷ xs) f = (f x (inl refl), each_in Q xs (λ y i. f y (inr i)))

of_all : {A : Type 0} (P : A → Type 0) (xs : List A) (x : A) → IsIn x xs → AllByRecursion P xs → P x
of_all P [] x i h = absurd i
of_all P (y ∷ ys) x (inl e) h = subst P (sym e) h.0
of_all P (y ∷ ys) x (inr i) h = of_all P ys x i h.1

-- where no key that is written is among these, each of these keys is another than those that are written
none_written : (ws : Writes) (keys : List RowKey) → AllByRecursion (λ w. IsIn w.0 keys → ⊥) ws → (k : RowKey) → IsIn k keys → AllByRecursion (λ w. k ≢ w.0) ws
none_written ws keys h k i =
    each_of (λ w. IsIn w.0 keys → ⊥) (λ w. k ≢ w.0) ws (λ w apart same. apart (subst (λ (q : RowKey). IsIn q keys) same i)) h

-- a message is decided behind the other as before it
as_before : (rows : Rows) (one other : Frame) → AllByRecursion (λ w. IsIn w.0 (decision (map.get rows) other).needs → ⊥) (writes_of rows one) → decision (map.get rows) other ≡ decision (map.get (rows_after_one rows one)) other
as_before rows one other h =
    same_decision other (map.get rows) (map.get (rows_after_one rows one))
    (each_in (λ k. map.get rows k ≡ map.get (rows_after_one rows one) k) (decision (map.get rows) other).needs
    (λ k i. sym (unwritten rows (writes_of rows one) k (none_written (writes_of rows one) (decision (map.get rows) other).needs h k i))))

-- a key that is written has the same row on whatever it is written
record IsWritten (ws : Writes) (k : RowKey) : Type 0 where
  value : RowVal
  stands : (rows : Rows) → map.get (overlay rows ws) k ≡ Some value
  write : RowKey × RowVal
  among : IsIn write ws
  key : k ≡ write.0

written_or_not : (ws : Writes) (k : RowKey) → AllByRecursion (λ w. k ≢ w.0) ws ⊎ IsWritten ws k
written_or_not [] k = inl tt
written_or_not (w ∷ ws) k =
    elim (written_or_not ws k) [
      | inr later ↦ inr (record { value = later.value; stands = λ rows. later.stands (map.insert rows w.0 w.1); write = later.write; among = inr later.among; key = later.key })
      | inl none ↦ elim (same_or_other k w.0) [
        | inl own ↦ inr (record {
          value = w.1;
          stands = λ rows. unwritten (map.insert rows w.0 w.1) ws k none ∙ ap (map.get (map.insert rows w.0 w.1)) own ∙ get-put rows w.0 w.1;
          write = w;
          among = inl refl;
          key = own;
        })
        | inr other ↦ inl (other, none)
      ]
    ]

-- rows that two messages write come to the same in either order
swapped : (rows : Rows) (one other : Frame) → ShareNoRow rows one other → (k : RowKey) → map.get (overlay (rows_after_one rows one) (writes_of rows other)) k ≡ map.get (overlay (rows_after_one rows other) (writes_of rows one)) k
swapped rows one other h k =
    elim (written_or_not (writes_of rows one) k) [
      | inl none ↦
          same_behind (rows_after_one rows one) rows (writes_of rows other) k (unwritten rows (writes_of rows one) k none)
          ∙ sym (unwritten (rows_after_one rows other) (writes_of rows one) k none)
      | inr w ↦
          let needed = subst (λ (q : RowKey). IsIn q (decision (map.get rows) one).needs) (sym w.key) (of_all (λ (x : RowKey × RowVal). IsIn x.0 (decision (map.get rows) one).needs) (writes_of rows one) w.write w.among (written_is_needed rows one)) in
          unwritten (rows_after_one rows one) (writes_of rows other) k (none_written (writes_of rows other) (decision (map.get rows) one).needs h.by_other k needed)
          ∙ w.stands rows
          ∙ sym (w.stands (rows_after_one rows other))
    ]

pub any_order : (rows : Rows) (one other : Frame) → ShareNoRow rows one other → TakeAnyOrder rows one other
any_order rows one other h =
    let other_same = as_before rows one other h.by_one in
    let one_same = as_before rows other one h.by_other in
    record {
      reply_to_one = sym (ap (λ (d : Decided). d.reply) one_same);
      reply_to_other = sym (ap (λ (d : Decided). d.reply) other_same);
      behind =
          ap (λ (d : Decided). overlay (rows_after_one rows one) d.writes) (sym other_same)
          ∙ map.same_map key_cmp_total key_cmp_antisymmetric _ _ (swapped rows one other h)
          ∙ ap (λ (d : Decided). overlay (rows_after_one rows other) d.writes) one_same;
    }
