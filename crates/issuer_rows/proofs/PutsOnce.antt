-- A decision writes no row with two values: the rows that it writes are of different kinds.
use Rattle.std.proofs.Common.{◌≡◌, ℕ, zero, suc, ◌<◌, slice_index_or, Bool, true, false, if◌then◌else◌, not, ◌==◌, ◌&&◌, [], ◌∷◌, length, Option, Some, None, option_map, Result, Ok, Err, Contains, IsTrue, ◌⊎◌, inl, inr, sym, ap, ◌∙◌, subst, refl, arith}
use Rattle.std.proofs.lemmas.Bool.Decides.{nat_tests}
use Rattle.iso8583.specs.declared.account_id.AccountId.{AccountId}
use Rattle.iso8583.specs.declared.advice.Advice.{Advice}
use Rattle.iso8583.specs.declared.identity.Identity.{Identity}
use Rattle.iso8583.specs.declared.message.Message.{Message}
use Rattle.iso8583.specs.declared.message.Message.TheVariants as message
use Rattle.iso8583.specs.declared.original_kind.OriginalKind.{OriginalKind}
use Rattle.iso8583.specs.declared.original_kind.OriginalKind.TheVariants as kind
use Rattle.iso8583.specs.declared.request.Request.{Request}
use Rattle.iso8583.specs.declared.reversal.Reversal.{Reversal}
use Rattle.issuer_rows.specs.AdviceTable.{advice_again, advice_on_funds, advice_on_account, advice_on_named, advice_on_card, advice_on_original, accepted, acknowledged, advice_funds}
use Rattle.issuer_rows.specs.CardAccounts.{account_of}
use Rattle.issuer_rows.specs.Decision.{decision, message_plan}
use Rattle.issuer_rows.specs.Facts.{is_same_currency, is_marked, is_of_same, is_same_identity, identity_of}
use Rattle.issuer_rows.specs.Kept.{KeptOriginal, kind_of_outcome, payment_of_outcome, reversal_of_outcome}
use Rattle.issuer_rows.specs.Plan.{Plan, Writes, Lookup, carried_out}
use Rattle.issuer_rows.specs.PutsOnce.{PutsOnce}
use Rattle.issuer_rows.specs.RequestTable.{request_again, on_original, on_card, on_usable, on_account, on_funds, unless_refused, approved, declined_request, refused_unseen, refused_by_limits, usable_account, request_funds}
use Rattle.issuer_rows.specs.ReversalTable.{on_reversed, on_reversal, on_payment, by_payer, on_paid, by_kind, on_original_day, reversed_advice, is_named, is_wrong_part, is_overfull, day_is_short}
use Rattle.issuer_rows.specs.RowKey.{kind_of}
use Rattle.issuer_rows.specs.Typed.{card_in, velocity_in, budget_in, original_in, account_in, spent_in}
use Rattle.issuer_rows.specs.declared.account_row.AccountRow.{AccountRow}
use Rattle.issuer_rows.specs.declared.card_row.CardRow.{CardRow}
use Rattle.issuer_rows.specs.declared.frame.Frame.{Frame}
use Rattle.issuer_rows.specs.declared.frame.Frame.TheVariants.{Good, Bad}
use Rattle.issuer_rows.specs.declared.funds.Funds.{Funds}
use Rattle.issuer_rows.specs.declared.funds.Funds.TheVariants as funds
use Rattle.issuer_rows.specs.declared.original_row.OriginalRow.{OriginalRow}
use Rattle.issuer_rows.specs.declared.original_row.OriginalRow.TheVariants as original
use Rattle.issuer_rows.specs.declared.payer.Payer.{Payer}
use Rattle.issuer_rows.specs.declared.payer.Payer.TheVariants as payer
use Rattle.issuer_rows.specs.declared.payment.Payment.{Payment}
use Rattle.issuer_rows.specs.declared.row_key.RowKey.{RowKey}
use Rattle.issuer_rows.specs.declared.row_val.RowVal.{RowVal}
use Rattle.issuer_rows.specs.declared.velocity_row.VelocityRow.{VelocityRow}

-- no row of this kind is written
abbrev pub IsFresh : ℕ → Writes → Type 0
IsFresh kind [] = Unit {0}
IsFresh kind (w ∷ ws) = IsTrue (not (kind == kind_of w.0)) × IsFresh kind ws

-- the rows that are written are of different kinds
abbrev pub AreApart : Writes → Type 0
AreApart [] = Unit {0}
AreApart (w ∷ ws) = IsFresh (kind_of w.0) ws × AreApart ws

-- what stands in a list is its head or stands behind it
place_of : (w : RowKey × RowVal) (ws : Writes) (put : RowKey × RowVal) (k : ℕ) → k < length (w ∷ ws) → slice_index_or (w ∷ ws) k put ≡ put → (w ≡ put) ⊎ Contains ws put
place_of w ws put zero l e = inl e
place_of w ws put (suc k) l e = inr (k, omega arith, e)

head_or_behind : (w : RowKey × RowVal) (ws : Writes) (put : RowKey × RowVal) → Contains (w ∷ ws) put → (w ≡ put) ⊎ Contains ws put
head_or_behind w ws put h = place_of w ws put h.0 h.1 h.2

nothing_stands : (put : RowKey × RowVal) → Contains [] put → ⊥
nothing_stands put h = omega (arith, h.1)

-- a number is no other than itself
pub not_another : (n : ℕ) → IsTrue (not (n == n)) → ⊥
not_another n h = grind (arith, nat_tests)

-- a row that is written is of another kind
of_other_kind : (kind : ℕ) (ws : Writes) (put : RowKey × RowVal) → IsFresh kind ws → Contains ws put → kind ≡ kind_of put.0 → ⊥
of_other_kind kind [] put fresh h e = nothing_stands put h
of_other_kind kind (w ∷ ws) put fresh h e =
    elim (head_or_behind w ws put h) [
      | inl is ↦ not_another kind (subst (λ n. IsTrue (not (kind == n))) (ap (λ (p : RowKey × RowVal). kind_of p.0) is ∙ sym e) fresh.0)
      | inr behind ↦ of_other_kind kind ws put fresh.1 behind e
    ]

once_apart : (ws : Writes) → AreApart ws → PutsOnce ws
once_apart [] apart put other h k e = absurd (nothing_stands put h)
once_apart (w ∷ ws) apart put other h k e =
    elim (head_or_behind w ws put h) [
      | inl is ↦ elim (head_or_behind w ws other k) [
        | inl also ↦ ap (λ (p : RowKey × RowVal). p.1) (sym is ∙ also)
        | inr behind ↦ absurd (of_other_kind (kind_of w.0) ws other apart.0 behind (ap (λ (p : RowKey × RowVal). kind_of p.0) is ∙ ap kind_of e))
      ]
      | inr behind ↦ elim (head_or_behind w ws other k) [
        | inl also ↦ absurd (of_other_kind (kind_of w.0) ws put apart.0 behind (ap (λ (p : RowKey × RowVal). kind_of p.0) also ∙ ap kind_of (sym e)))
        | inr behind_too ↦ once_apart ws apart.1 put other behind behind_too e
      ]
    ]

-- whatever the rows are, the plan writes rows of different kinds
abbrev Apart : Plan → Type 0
Apart plan = (look : Lookup) → AreApart (carried_out plan look).writes

-- of two plans, by a test
either : (b : Bool) (p q : Plan) → Apart p → Apart q → Apart (if b then p else q)
either true p q h k = h
either false p q h k = k

nothing_put : (look : Lookup) → AreApart []
nothing_put look = tt

-- the table of a request
approved_apart : (r : Request) (card : CardRow) (day : VelocityRow) (paying : Funds) → Apart (approved r card day paying)
approved_apart r card day (funds.Account id row) look = ((refl, (refl, (refl, tt))), ((refl, (refl, tt)), ((refl, tt), (tt, tt))))
approved_apart r card day (funds.Budget prefix row) look = ((refl, (refl, (refl, tt))), ((refl, (refl, tt)), ((refl, tt), (tt, tt))))

on_funds_apart : (r : Request) (card : CardRow) (day : VelocityRow) (found : Result Funds ℕ) → Apart (on_funds r card day found)
on_funds_apart r card day (Ok paying) = approved_apart r card day paying
on_funds_apart r card day (Err action) = λ look. (tt, tt)

refused_apart : (r : Request) (refused : Option ℕ) (next : Plan) → Apart next → Apart (unless_refused r refused next)
refused_apart r (Some action) next h = λ look. (tt, tt)
refused_apart r None next h = h

on_account_apart : (r : Request) (card : CardRow) (id : AccountId) (account : Option AccountRow) → Apart (on_account r card id account)
on_account_apart r card id None = λ look. (tt, tt)
on_account_apart r card id (Some account) =
    either (is_same_currency r.transaction.currency account.currency) _ (declined_request r 100)
    (λ look. refused_apart r (refused_by_limits r card (spent_in (velocity_in (look _)))) _ (λ l. on_funds_apart r card _ (request_funds r.transaction id account (budget_in (l _))) l) look)
    (λ look. (tt, tt))

on_usable_apart : (r : Request) (card : CardRow) (usable : Result AccountId ℕ) → Apart (on_usable r card usable)
on_usable_apart r card (Ok id) = λ look. on_account_apart r card id (account_in (look _)) look
on_usable_apart r card (Err action) = λ look. (tt, tt)

on_card_apart : (r : Request) (card : Option CardRow) → Apart (on_card r card)
on_card_apart r None = λ look. (tt, tt)
on_card_apart r (Some card) = on_usable_apart r card (usable_account r card)

request_again_apart : (r : Request) (row : OriginalRow) → Apart (request_again r row)
request_again_apart r (original.Ahead mark) = either (is_marked mark r.transaction kind.Request) _ _ (λ look. (tt, tt)) nothing_put
request_again_apart r (original.Kept kept) = either (r.repeat && is_of_same kept r.transaction kind.Request) _ _ nothing_put nothing_put

on_original_apart : (r : Request) (row : Option OriginalRow) → Apart (on_original r row)
on_original_apart r (Some row) = request_again_apart r row
on_original_apart r None = refused_apart r (refused_unseen r) _ (λ look. on_card_apart r (card_in (look _)) look)

-- the table of an advice
accepted_apart : (a : Advice) (paying : Funds) → Apart (accepted a paying)
accepted_apart a (funds.Account id row) look = ((refl, tt), (tt, tt))
accepted_apart a (funds.Budget prefix row) look = ((refl, tt), (tt, tt))

advice_on_funds_apart : (a : Advice) (found : Option Funds) → Apart (advice_on_funds a found)
advice_on_funds_apart a None = λ look. (tt, tt)
advice_on_funds_apart a (Some paying) = accepted_apart a paying

advice_on_account_apart : (a : Advice) (id : AccountId) (account : Option AccountRow) → Apart (advice_on_account a id account)
advice_on_account_apart a id None = λ look. (tt, tt)
advice_on_account_apart a id (Some account) =
    either (is_same_currency a.transaction.currency account.currency) _ (acknowledged a)
    (λ look. advice_on_funds_apart a (advice_funds a.transaction id account (budget_in (look _))) look)
    (λ look. (tt, tt))

advice_on_named_apart : (a : Advice) (named : Option AccountId) → Apart (advice_on_named a named)
advice_on_named_apart a None = λ look. (tt, tt)
advice_on_named_apart a (Some id) = λ look. advice_on_account_apart a id (account_in (look _)) look

advice_on_card_apart : (a : Advice) (card : Option CardRow) → Apart (advice_on_card a card)
advice_on_card_apart a None = λ look. (tt, tt)
advice_on_card_apart a (Some card) = advice_on_named_apart a (account_of card.accounts a.account)

advice_again_apart : (a : Advice) (row : OriginalRow) → Apart (advice_again a row)
advice_again_apart a (original.Ahead mark) = either (is_marked mark a.transaction kind.Advice) _ _ (λ look. (tt, tt)) nothing_put
advice_again_apart a (original.Kept kept) = either (a.repeat && is_of_same kept a.transaction kind.Advice) _ _ nothing_put nothing_put

advice_on_original_apart : (a : Advice) (row : Option OriginalRow) → Apart (advice_on_original a row)
advice_on_original_apart a (Some row) = advice_again_apart a row
advice_on_original_apart a None = either (a.action == 0) _ (acknowledged a) (λ look. advice_on_card_apart a (card_in (look _)) look) (λ look. (tt, tt))

-- the table of a reversal
reversed_advice_apart : (r : Reversal) (k : KeptOriginal) (paid : Funds) → Apart (reversed_advice r k paid)
reversed_advice_apart r k (funds.Account id row) = either (is_overfull r k (funds.Account id row)) _ _ nothing_put (λ look. ((refl, tt), (tt, tt)))
reversed_advice_apart r k (funds.Budget prefix row) = either (is_overfull r k (funds.Budget prefix row)) _ _ nothing_put (λ look. ((refl, tt), (tt, tt)))

on_original_day_apart : (r : Reversal) (k : KeptOriginal) (paid : Funds) (day : Option VelocityRow) → Apart (on_original_day r k paid day)
on_original_day_apart r k paid None = nothing_put
on_original_day_apart r k (funds.Account id row) (Some day) =
    either (is_overfull r k (funds.Account id row)) _ _ nothing_put
    (either (day_is_short r k day) _ _ nothing_put (λ look. ((refl, (refl, tt)), ((refl, tt), (tt, tt)))))
on_original_day_apart r k (funds.Budget prefix row) (Some day) =
    either (is_overfull r k (funds.Budget prefix row)) _ _ nothing_put
    (either (day_is_short r k day) _ _ nothing_put (λ look. ((refl, (refl, tt)), ((refl, tt), (tt, tt)))))

by_kind_apart : (k : OriginalKind) (r : Reversal) (kept : KeptOriginal) (paid : Funds) → Apart (by_kind k r kept paid)
by_kind_apart kind.Request r kept paid = λ look. on_original_day_apart r kept paid (velocity_in (look _)) look
by_kind_apart kind.Advice r kept paid = reversed_advice_apart r kept paid

on_paid_apart : (r : Reversal) (k : KeptOriginal) (paid : Option Funds) → Apart (on_paid r k paid)
on_paid_apart r k None = nothing_put
on_paid_apart r k (Some paid) = by_kind_apart (kind_of_outcome k.outcome) r k paid

by_payer_apart : (r : Reversal) (k : KeptOriginal) (p : Payer) → Apart (by_payer r k p)
by_payer_apart r k (payer.Account id) = λ look. on_paid_apart r k (option_map (funds.Account id) (account_in (look _))) look
by_payer_apart r k payer.Budget = λ look. on_paid_apart r k (option_map (funds.Budget _) (budget_in (look _))) look

on_payment_apart : (r : Reversal) (k : KeptOriginal) (payment : Option Payment) → Apart (on_payment r k payment)
on_payment_apart r k None = λ look. (tt, tt)
on_payment_apart r k (Some payment) = either (is_wrong_part r.scope r.transaction.amount k.amount) _ _ nothing_put (by_payer_apart r k payment.payer)

on_reversal_apart : (r : Reversal) (k : KeptOriginal) (by : Option Identity) → Apart (on_reversal r k by)
on_reversal_apart r k (Some by) = either (r.repeat && is_same_identity by (identity_of r.transaction)) _ _ nothing_put nothing_put
on_reversal_apart r k None = on_payment_apart r k (payment_of_outcome k.outcome)

on_reversed_apart : (r : Reversal) (row : Option OriginalRow) → Apart (on_reversed r row)
on_reversed_apart r None = λ look. (tt, tt)
on_reversed_apart r (Some (original.Ahead mark)) = nothing_put
on_reversed_apart r (Some (original.Kept k)) = either (is_named r k) _ _ (on_reversal_apart r k (reversal_of_outcome k.outcome)) nothing_put

-- the table of each kind of message
message_apart : (m : Message) → Apart (message_plan m)
message_apart (message.Request r) look = on_original_apart r (original_in (look _)) look
message_apart (message.Advice a) look = advice_on_original_apart a (original_in (look _)) look
message_apart (message.Reversal r) look = on_reversed_apart r (original_in (look _)) look

-- what a decision writes is of different kinds
pub kinds_apart : (look : Lookup) (frame : Frame) → AreApart (decision look frame).writes
unfolding decision
kinds_apart look (Good m) = message_apart m look
kinds_apart look (Bad fault) = tt

-- so no row is written with two values
pub puts_once : (look : Lookup) (frame : Frame) → PutsOnce (decision look frame).writes
puts_once look frame = once_apart _ (kinds_apart look frame)
