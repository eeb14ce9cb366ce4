-- What becomes of a reversal.
use Rattle.std.proofs.Common.{◌≡◌, ◌≢◌, ℕ, Bool, true, false, if◌then◌else◌, ◌&&◌, [], ◌∷◌, ◌++◌, Option, Some, None, option_map, ◌⊎◌, inl, inr, refl, sym, arith}
use Rattle.std.proofs.lemmas.Bool.{and_parts}
use Rattle.issuer_words.specs.Words.{Funds, Identity, KeptOriginal, Lookup, OriginalKind, OriginalRow, Payer, Payment, Plan, ReplyBody, Reversal, VelocityRow, Writes, account_in, budget_in, by_kind, by_payer, carried_out, day_is_short, day_key, identity_of, is_named, is_overfull, is_same_identity, is_wrong_part, kind_of_outcome, on_original_day, on_paid, on_payment, on_reversal, on_reversed, original_in, original_put, payer_of, payment_of_outcome, prefix_of, refunded, reply_to_reversal, reversal_of_outcome, reversal_plan, reversed_original, settled, spent_less, unchanged, velocity_in}
use Rattle.iso8583.specs.declared.original_kind.OriginalKind.TheVariants as kind
use Rattle.issuer_rows.specs.declared.funds.Funds.TheVariants as funds
use Rattle.issuer_rows.specs.declared.original_row.OriginalRow.TheVariants as original
use Rattle.issuer_rows.specs.declared.payer.Payer.TheVariants as payer
use Rattle.issuer_rows.specs.declared.row_key.RowKey.TheVariants as key
use Rattle.issuer_rows.specs.declared.row_val.RowVal.TheVariants as val
use Rattle.issuer_laws.proofs.Funding.{IsFound, IsOfCard}

-- another action than 400, and nothing is written
pub record Refuses (v : Reversal) (reply_is : ReplyBody) (writes_are : Writes) : Type 0 where
  pub action : ℕ
  pub refused : action ≢ 400
  pub reply : reply_is ≡ reply_to_reversal v action
  pub writes : writes_are ≡ []

-- no row stands at the identity: 914 and a mark
pub record MarksAhead (v : Reversal) (look : Lookup) (reply_is : ReplyBody) (writes_are : Writes) : Type 0 where
  pub none : original_in (look (key.Original v.original.identity)) ≡ None
  pub reply : reply_is ≡ reply_to_reversal v 914
  pub writes : writes_are ≡ original_put v (val.Ahead (record { card = v.transaction.pan; kind = v.original.kind; reversal = identity_of v.transaction })) ∷ []

-- the original that stands there is the one that is named
pub record Names (v : Reversal) (look : Lookup) (k : KeptOriginal) (by : Option Identity) : Type 0 where
  pub stands : original_in (look (key.Original v.original.identity)) ≡ Some (original.Kept k)
  pub named : is_named v k ≡ true
  pub reversal : reversal_of_outcome k.outcome ≡ by

-- 400 again
pub record Repeats (v : Reversal) (look : Lookup) (reply_is : ReplyBody) (writes_are : Writes) : Type 0 where
  pub kept : KeptOriginal
  pub by : Identity
  pub names : Names v look kept (Some by)
  pub own : is_same_identity by (identity_of v.transaction) ≡ true
  pub reply : reply_is ≡ reply_to_reversal v 400
  pub writes : writes_are ≡ []

-- 400, of an original that isn't posted
pub record SettlesUnposted (v : Reversal) (look : Lookup) (reply_is : ReplyBody) (writes_are : Writes) : Type 0 where
  pub kept : KeptOriginal
  pub names : Names v look kept None
  pub unposted : payment_of_outcome kept.outcome ≡ None
  pub reply : reply_is ≡ reply_to_reversal v 400
  pub writes : writes_are ≡ original_put v (val.Kept (settled kept (identity_of v.transaction) 0)) ∷ []

-- what is written of the day, if the original was spent on one
abbrev pub day_put : Reversal → KeptOriginal → Option VelocityRow → Writes
day_put v k None = []
day_put v k (Some day) = (day_key v k, val.Velocity (spent_less v k day)) ∷ []

-- the day of the original stands in the book, and has what is given back
pub record HasDay (v : Reversal) (look : Lookup) (k : KeptOriginal) (day : VelocityRow) : Type 0 where
  pub request : kind_of_outcome k.outcome ≡ kind.Request
  pub stands : velocity_in (look (day_key v k)) ≡ Some day
  pub enough : day_is_short v k day ≡ false

-- the same of a request; an advice was spent on no day
abbrev pub IsDayFound : Reversal → Lookup → KeptOriginal → Option VelocityRow → Type 0
IsDayFound v look k None = kind_of_outcome k.outcome ≡ kind.Advice
IsDayFound v look k (Some day) = HasDay v look k day

-- 400, of an original that is posted
pub record SettlesPosted (v : Reversal) (look : Lookup) (reply_is : ReplyBody) (writes_are : Writes) : Type 0 where
  pub kept : KeptOriginal
  pub names : Names v look kept None
  pub payment : Payment
  pub posted : payment_of_outcome kept.outcome ≡ Some payment
  pub paid : Funds
  pub found : IsFound look paid
  pub of_card : IsOfCard kept.card paid
  pub payer : payer_of paid ≡ payment.payer
  pub day : Option VelocityRow
  pub day_found : IsDayFound v look kept day
  pub reply : reply_is ≡ reply_to_reversal v 400
  pub writes : writes_are ≡ reversed_original v kept ∷ (day_put v kept day ++ refunded v kept paid ∷ [])

-- one of these
abbrev pub IsReversalDecided : Reversal → Lookup → ReplyBody → Writes → Type 0
IsReversalDecided v look reply writes =
    Refuses v reply writes ⊎ (MarksAhead v look reply writes ⊎ (Repeats v look reply writes ⊎ (SettlesUnposted v look reply writes ⊎ SettlesPosted v look reply writes)))

-- of a decision
abbrev pub IsWay : Reversal → Lookup → Plan → Type 0
IsWay v look plan = IsReversalDecided v look (carried_out plan look).reply (carried_out plan look).writes

refusing : (v : Reversal) (look : Lookup) (action : ℕ) → action ≢ 400 → IsWay v look (unchanged v action)
refusing v look action other = inl (record { action = action; refused = other; reply = refl; writes = refl })

either_way : (v : Reversal) (look : Lookup) (b : Bool) (p q : Plan) → (b ≡ true → IsWay v look p) → (b ≡ false → IsWay v look q) → IsWay v look (if b then p else q)
either_way v look true p q h k = h refl
either_way v look false p q h k = k refl

-- what is known where the row that paid was looked at
record IsPaid (v : Reversal) (look : Lookup) (k : KeptOriginal) (paid : Funds) : Type 0 where
  names : Names v look k None
  payment : Payment
  posted : payment_of_outcome k.outcome ≡ Some payment
  found : IsFound look paid
  of_card : IsOfCard k.card paid
  payer : payer_of paid ≡ payment.payer

settling : (v : Reversal) (look : Lookup) (k : KeptOriginal) (paid : Funds) (day : Option VelocityRow) → IsPaid v look k paid → IsDayFound v look k day → IsReversalDecided v look (reply_to_reversal v 400) (reversed_original v k ∷ (day_put v k day ++ refunded v k paid ∷ []))
settling v look k paid day h found = inr (inr (inr (inr (record {
  kept = k;
  names = h.names;
  payment = h.payment;
  posted = h.posted;
  paid = paid;
  found = h.found;
  of_card = h.of_card;
  payer = h.payer;
  day = day;
  day_found = found;
  reply = refl;
  writes = refl;
}))))

ways_of_kind : (v : Reversal) (look : Lookup) (o : OriginalKind) (k : KeptOriginal) (paid : Funds) → kind_of_outcome k.outcome ≡ o → IsPaid v look k paid → IsWay v look (by_kind o v k paid)
ways_of_kind v look kind.Advice k paid of h =
    either_way v look (is_overfull v k paid) _ _ (λ full. refusing v look 909 (λ e. absurd (omega arith))) (λ room. settling v look k paid None h of)
ways_of_kind v look kind.Request k paid of h =
    elim (velocity_in (look (day_key v k))) as (λ day. velocity_in (look (day_key v k)) ≡ day → IsWay v look (on_original_day v k paid day)) [
      | None ↦ λ none. refusing v look 914 (λ e. absurd (omega arith))
      | Some day ↦
          λ stands. either_way v look (is_overfull v k paid) _ _ (λ full. refusing v look 909 (λ e. absurd (omega arith)))
          (λ room. either_way v look (day_is_short v k day) _ _ (λ short. refusing v look 909 (λ e. absurd (omega arith))) (λ enough. settling v look k paid (Some day) h (record { request = of; stands = stands; enough = enough })))
    ] refl

-- what is known where the payer is
record IsPosted (v : Reversal) (look : Lookup) (k : KeptOriginal) (p : Payer) : Type 0 where
  names : Names v look k None
  payment : Payment
  posted : payment_of_outcome k.outcome ≡ Some payment
  payer : payment.payer ≡ p

paid_by : (v : Reversal) (look : Lookup) (k : KeptOriginal) (paid : Funds) → IsPosted v look k (payer_of paid) → IsFound look paid → IsOfCard k.card paid → IsPaid v look k paid
paid_by v look k paid h found of_card = record { names = h.names; payment = h.payment; posted = h.posted; found = found; of_card = of_card; payer = sym h.payer }

ways_of_payer : (v : Reversal) (look : Lookup) (k : KeptOriginal) (p : Payer) → IsPosted v look k p → IsWay v look (by_payer v k p)
ways_of_payer v look k (payer.Account id) h =
    elim (account_in (look (key.Account id))) as (λ row. account_in (look (key.Account id)) ≡ row → IsWay v look (on_paid v k (option_map (funds.Account id) row))) [
      | None ↦ λ e. refusing v look 914 (λ e. absurd (omega arith))
      | Some row ↦ λ e. ways_of_kind v look (kind_of_outcome k.outcome) k (funds.Account id row) refl (paid_by v look k (funds.Account id row) h e tt)
    ] refl
ways_of_payer v look k payer.Budget h =
    elim (budget_in (look (key.Budget (prefix_of k.card)))) as (λ row. budget_in (look (key.Budget (prefix_of k.card))) ≡ row → IsWay v look (on_paid v k (option_map (funds.Budget (prefix_of k.card)) row))) [
      | None ↦ λ e. refusing v look 914 (λ e. absurd (omega arith))
      | Some row ↦ λ e. ways_of_kind v look (kind_of_outcome k.outcome) k (funds.Budget (prefix_of k.card) row) refl (paid_by v look k (funds.Budget (prefix_of k.card) row) h e refl)
    ] refl

ways_of_payment : (v : Reversal) (look : Lookup) (k : KeptOriginal) (payment : Option Payment) → Names v look k None → payment_of_outcome k.outcome ≡ payment → IsWay v look (on_payment v k payment)
ways_of_payment v look k None h e = inr (inr (inr (inl (record { kept = k; names = h; unposted = e; reply = refl; writes = refl }))))
ways_of_payment v look k (Some payment) h e =
    either_way v look (is_wrong_part v.scope v.transaction.amount k.amount) _ _ (λ wrong. refusing v look 110 (λ e. absurd (omega arith)))
    (λ right. ways_of_payer v look k payment.payer (record { names = h; payment = payment; posted = e; payer = refl }))

ways_of_reversal : (v : Reversal) (look : Lookup) (k : KeptOriginal) (by : Option Identity) → Names v look k by → IsWay v look (on_reversal v k by)
ways_of_reversal v look k None h = ways_of_payment v look k (payment_of_outcome k.outcome) h refl
ways_of_reversal v look k (Some by) h =
    either_way v look (v.repeat && is_same_identity by (identity_of v.transaction)) _ _
    (λ again. inr (inr (inl (record { kept = k; by = by; names = h; own = (and_parts v.repeat _ again).1; reply = refl; writes = refl }))))
    (λ other. refusing v look 913 (λ e. absurd (omega arith)))

ways_of_row : (v : Reversal) (look : Lookup) (row : Option OriginalRow) → original_in (look (key.Original v.original.identity)) ≡ row → IsWay v look (on_reversed v row)
ways_of_row v look None e = inr (inl (record { none = e; reply = refl; writes = refl }))
ways_of_row v look (Some (original.Ahead mark)) e = refusing v look 914 (λ e. absurd (omega arith))
ways_of_row v look (Some (original.Kept k)) e =
    either_way v look (is_named v k) _ _
    (λ named. ways_of_reversal v look k (reversal_of_outcome k.outcome) (record { stands = e; named = named; reversal = refl }))
    (λ other. refusing v look 914 (λ e. absurd (omega arith)))

-- what becomes of a reversal
pub reversal_ways : (v : Reversal) (look : Lookup) → IsWay v look (reversal_plan v)
reversal_ways v look = ways_of_row v look (original_in (look (key.Original v.original.identity))) refl
