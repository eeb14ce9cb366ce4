-- What becomes of a request whose identity wasn't seen: it is declined and kept, or it is approved and paid.
use Rattle.std.proofs.Common.{◌≡◌, ℕ, ◌<◌, Bool, true, false, if◌then◌else◌, nat_lt, nat_le, ◌==◌, ◌+◌, [], ◌∷◌, Option, Some, None, Result, Ok, Err, ◌⊎◌, inl, inr, refl, sym, ap, ◌∙◌, subst, arith}
use Rattle.issuer_words.specs.Words.{AccountId, AccountRow, CardRow, CardStatus, Decided, Funds, Lookup, Plan, ReplyBody, Request, VelocityRow, Writes, account_in, account_of, approval_code, approved_writes, budget_in, card_in, carried_out, day_of, declined_request, fresh_request, identity_of, is_same_currency, is_unpermitted, kept_of_request, month_of, number_of, on_account, on_card, on_funds, on_usable, or_not_permitted, passes_luhn, refused_by_limits, refused_by_status, refused_unseen, reply_to_request, request_funds, spent_in, unless_refused, unless_status, usable_account, velocity_in}
use Rattle.iso8583.specs.declared.verdict.Verdict.TheVariants as verdict
use Rattle.issuer_rows.specs.declared.card_status.CardStatus.TheVariants as status
use Rattle.issuer_rows.specs.declared.original_outcome.OriginalOutcome.TheVariants as outcome
use Rattle.issuer_rows.specs.declared.row_key.RowKey.TheVariants as key
use Rattle.issuer_laws.proofs.Funding.{CanPay, IsSource, request_source, account_own}
use Rattle.issuer_laws.specs.Parts.{IsIn, account_keys}

-- another action than 000, which is kept
pub record Declines (r : Request) (reply_is : ReplyBody) (writes_are : Writes) : Type 0 where
  pub action : ℕ
  pub declined : 0 < action
  pub reply : reply_is ≡ reply_to_request r (verdict.Declined action)
  pub writes : writes_are ≡ (key.Original (identity_of r.transaction), kept_of_request r (outcome.Declined action None)) ∷ []

-- what was spent on the request's day
abbrev pub spent_by : Request → Lookup → VelocityRow
spent_by r look = spent_in (velocity_in (look (key.Velocity r.transaction.pan (day_of r.transaction.stamp))))

-- 000: the original is kept, card and day rise, and what pays has as much less
pub record Approves (r : Request) (look : Lookup) (reply_is : ReplyBody) (writes_are : Writes) : Type 0 where
  pub card : CardRow
  pub stands : card_in (look (key.Card r.transaction.pan)) ≡ Some card
  pub within : refused_by_limits r card (spent_by r look) ≡ None
  pub paying : Funds
  pub pays : CanPay look r.transaction paying
  pub reply : reply_is ≡ reply_to_request r (verdict.Approved (approval_code card))
  pub writes : writes_are ≡ approved_writes r card (spent_by r look) paying

-- the one or the other
abbrev pub IsDecidedFresh : Request → Lookup → Decided → Type 0
IsDecidedFresh r look d = Declines r d.reply d.writes ⊎ Approves r look d.reply d.writes

declining : (r : Request) (look : Lookup) (action : ℕ) → 0 < action → IsDecidedFresh r look (carried_out (declined_request r action) look)
declining r look action positive = inl (record { action = action; declined = positive; reply = refl; writes = refl })

-- an action for which a request is refused, if there is one
abbrev IsRefusal : Option ℕ → Type 0
IsRefusal None = Unit {0}
IsRefusal (Some action) = 0 < action

either_refusal : (b : Bool) (x y : Option ℕ) → IsRefusal x → IsRefusal y → IsRefusal (if b then x else y)
either_refusal true x y h k = h
either_refusal false x y h k = k

unseen_refusal : (r : Request) → IsRefusal (refused_unseen r)
unseen_refusal r =
    either_refusal (is_unpermitted r) (Some 119) _ (omega arith)
    (either_refusal (r.transaction.amount == 0) (Some 110) _ (omega arith)
    (either_refusal (passes_luhn r.transaction.pan.0) None (Some 111) tt (omega arith)))

limits_refusal : (r : Request) (card : CardRow) (day : VelocityRow) → IsRefusal (refused_by_limits r card day)
limits_refusal r card day =
    either_refusal (nat_lt card.day_count (day.count + 1)) (Some 123) _ (omega arith)
    (either_refusal (nat_lt card.day_amount (day.sum + r.transaction.amount)) (Some 121) _ (omega arith) (either_refusal (nat_le 999999 card.approvals) (Some 909) None (omega arith) tt))

-- an account, or an action for which a request is refused
abbrev IsUsable : Result AccountId ℕ → Type 0
IsUsable (Ok id) = Unit {0}
IsUsable (Err action) = 0 < action

either_usable : (b : Bool) (x y : Result AccountId ℕ) → IsUsable x → IsUsable y → IsUsable (if b then x else y)
either_usable true x y h k = h
either_usable false x y h k = k

named_usable : (id : Option AccountId) → IsUsable (or_not_permitted id)
named_usable (Some id) = tt
named_usable None = omega arith

status_usable : (s : CardStatus) (else_so : Result AccountId ℕ) → IsUsable else_so → IsUsable (unless_status (refused_by_status s) else_so)
status_usable status.Active else_so h = h
status_usable status.Blocked else_so h = omega arith
status_usable status.Lost else_so h = omega arith
status_usable status.Stolen else_so h = omega arith

card_usable : (r : Request) (card : CardRow) → IsUsable (usable_account r card)
card_usable r card =
    status_usable card.status _
    (either_usable (nat_lt (number_of card.expiry) (number_of (month_of r.transaction.stamp))) (Err 101) _ (omega arith) (named_usable (account_of card.accounts r.account)))

unless : (r : Request) (look : Lookup) (refused : Option ℕ) (next : Plan) → IsRefusal refused → (refused ≡ None → IsDecidedFresh r look (carried_out next look)) → IsDecidedFresh r look (carried_out (unless_refused r refused next) look)
unless r look (Some action) next positive h = declining r look action positive
unless r look None next positive h = h refl

ways_on_funds : (r : Request) (look : Lookup) (card : CardRow) (found : Result Funds ℕ) → card_in (look (key.Card r.transaction.pan)) ≡ Some card → refused_by_limits r card (spent_by r look) ≡ None → IsSource look r.transaction found → IsDecidedFresh r look (carried_out (on_funds r card (spent_by r look) found) look)
ways_on_funds r look card (Err action) stands within positive = declining r look action positive
ways_on_funds r look card (Ok paying) stands within pays =
    inr (record { card = card; stands = stands; within = within; paying = paying; pays = pays; reply = refl; writes = refl })

either_way : (r : Request) (look : Lookup) (b : Bool) (p q : Plan) → IsDecidedFresh r look (carried_out p look) → IsDecidedFresh r look (carried_out q look) → IsDecidedFresh r look (carried_out (if b then p else q) look)
either_way r look true p q h k = h
either_way r look false p q h k = k

ways_on_account : (r : Request) (look : Lookup) (card : CardRow) (id : AccountId) (account : Option AccountRow) → card_in (look (key.Card r.transaction.pan)) ≡ Some card → IsIn (key.Account id) (account_keys (Some card)) → account_in (look (key.Account id)) ≡ account → IsDecidedFresh r look (carried_out (on_account r card id account) look)
ways_on_account r look card id None stands own e = declining r look 909 (omega arith)
ways_on_account r look card id (Some account) stands own e =
    either_way r look (is_same_currency r.transaction.currency account.currency) _ (declined_request r 100)
    (unless r look (refused_by_limits r card (spent_by r look)) _ (limits_refusal r card _)
    (λ within. ways_on_funds r look card (request_funds r.transaction id account (budget_in (look _))) stands within
    (request_source look r.transaction id account _ (subst (λ (c : Option CardRow). IsIn (key.Account id) (account_keys c)) (sym stands) own) e refl)))
    (declining r look 100 (omega arith))

-- an account that the card lets pay is one of its two
not_an_account : (action : ℕ) (id : AccountId) → ◌≡◌ {A = Result AccountId ℕ} (Err action) (Ok id) → ⊥
not_an_account action id e = absurd (cc)

permitted_own : (card : CardRow) (named : Option AccountId) (found : Option AccountId) (id : AccountId) → account_of card.accounts named ≡ found → or_not_permitted found ≡ Ok id → IsIn (key.Account id) (account_keys (Some card))
permitted_own card named (Some own) id e f = let same : own ≡ id = cc in account_own card named id (e ∙ ap (λ (a : AccountId). Some a) same)
permitted_own card named None id e f = absurd (not_an_account 119 id f)

by_expiry_own : (r : Request) (card : CardRow) (id : AccountId) (expired : Bool) → (if expired then Err 101 else or_not_permitted (account_of card.accounts r.account)) ≡ Ok id → IsIn (key.Account id) (account_keys (Some card))
by_expiry_own r card id true e = absurd (not_an_account 101 id e)
by_expiry_own r card id false e = permitted_own card r.account _ id refl e

by_status_own : (r : Request) (card : CardRow) (id : AccountId) (refused : Option ℕ) → unless_status refused (if nat_lt (number_of card.expiry) (number_of (month_of r.transaction.stamp)) then Err 101 else or_not_permitted (account_of card.accounts r.account)) ≡ Ok id → IsIn (key.Account id) (account_keys (Some card))
by_status_own r card id (Some action) e = absurd (not_an_account action id e)
by_status_own r card id None e = by_expiry_own r card id (nat_lt (number_of card.expiry) (number_of (month_of r.transaction.stamp))) e

pub usable_own : (r : Request) (card : CardRow) (id : AccountId) → usable_account r card ≡ Ok id → IsIn (key.Account id) (account_keys (Some card))
usable_own r card id e = by_status_own r card id (refused_by_status card.status) e

ways_on_usable : (r : Request) (look : Lookup) (card : CardRow) (usable : Result AccountId ℕ) → card_in (look (key.Card r.transaction.pan)) ≡ Some card → usable_account r card ≡ usable → IsUsable usable → IsDecidedFresh r look (carried_out (on_usable r card usable) look)
ways_on_usable r look card (Ok id) stands e h = ways_on_account r look card id (account_in (look (key.Account id))) stands (usable_own r card id e) refl
ways_on_usable r look card (Err action) stands e positive = declining r look action positive

ways_on_card : (r : Request) (look : Lookup) (card : Option CardRow) → card_in (look (key.Card r.transaction.pan)) ≡ card → IsDecidedFresh r look (carried_out (on_card r card) look)
ways_on_card r look None e = declining r look 118 (omega arith)
ways_on_card r look (Some card) e = ways_on_usable r look card (usable_account r card) e refl (card_usable r card)

-- what becomes of such a request
pub fresh_ways : (r : Request) (look : Lookup) → IsDecidedFresh r look (carried_out (fresh_request r) look)
fresh_ways r look = unless r look (refused_unseen r) _ (unseen_refusal r) (λ seen. ways_on_card r look (card_in (look (key.Card r.transaction.pan))) refl)
