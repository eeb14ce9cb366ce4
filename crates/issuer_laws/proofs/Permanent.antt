-- An original that is kept stays: no decision takes it away, and only a reversal of one that had none changes it.
use Rattle.std.proofs.Common.{◌≡◌, ℕ, Bool, true, false, if◌then◌else◌, ◌&&◌, List, [], ◌∷◌, ◌++◌, Option, Some, None, ◌⊎◌, inl, inr, refl, sym, ap, ◌∙◌, subst}
use Rattle.std.specs.FinMap as map
use Rattle.issuer_words.specs.Words.{Advice, Frame, Funds, Identity, KeptOriginal, Lookup, Message, OriginalKind, OriginalOutcome, OriginalRow, Plan, Request, Reversal, RowKey, RowVal, Rows, VelocityRow, Writes, action_of_outcome, advice_on_original, approval_of_outcome, carried_out, decision, identity_of, is_marked, is_of_same, kept_of_advice, kept_of_request, kind_of_outcome, on_original, original_in, overlay, refunded, reversal_of_outcome, reversal_plan, rows_after_one, settled, settled_outcome, writes_of}
use Rattle.issuer_rows.proofs.PutsOnce.{IsFresh}
use Rattle.issuer_laws.proofs.AdviceWays as advice
use Rattle.issuer_laws.proofs.Keys.{get-other, get-fresh, same_or_other, funds_other, original_stands}
use Rattle.issuer_laws.proofs.RequestWays as request
use Rattle.issuer_laws.proofs.ReversalWays.{day_put, reversal_ways}
use Rattle.issuer_laws.specs.Permanent.{IsKeptAt, Continues, StaysKept, IsSameOriginal}

-- the value that an original without a reversal has once a message has reversed it
pub record Reverses (k : KeptOriginal) (v : RowVal) : Type 0 where
  pub unreversed : reversal_of_outcome k.outcome ≡ None
  pub by : Identity
  pub stay : ℕ
  pub value : v ≡ RowVal.Kept (settled k by stay)

-- what is written where an original's row stands: anything over none, over a mark what is kept of its message, with the mark's reversal, and
-- over what is kept its reversal alone
abbrev pub Succeeds : Option OriginalRow → RowVal → Type 0
Succeeds None v = Unit {0}
Succeeds (Some (OriginalRow.Ahead mark)) v = (k : KeptOriginal) × (v ≡ RowVal.Kept k) × (reversal_of_outcome k.outcome ≡ Some mark.reversal)
Succeeds (Some (OriginalRow.Kept k)) v = Reverses k v

-- nothing is written; or the row of an original, and rows of other kinds
abbrev pub PutsOriginal : Lookup → Writes → Type 0
PutsOriginal look ws =
    (ws ≡ []) ⊎ ((identity : Identity) × (v : RowVal) × (rest : Writes) × (ws ≡ (RowKey.Original identity, v) ∷ rest) × IsFresh 3 rest × Succeeds (original_in (look (RowKey.Original identity))) v)

one_original : (look : Lookup) (identity : Identity) (v : RowVal) (rest ws : Writes) (row : Option OriginalRow) → ws ≡ (RowKey.Original identity, v) ∷ rest → IsFresh 3 rest → original_in (look (RowKey.Original identity)) ≡ row → Succeeds row v → PutsOriginal look ws
one_original look identity v rest ws row e fresh was so = inr (identity, v, rest, e, fresh, subst (λ (o : Option OriginalRow). Succeeds o v) (sym was) so)

either : (look : Lookup) (b : Bool) (p q : Plan) → PutsOriginal look (carried_out p look).writes → PutsOriginal look (carried_out q look).writes → PutsOriginal look (carried_out (if b then p else q) look).writes
either look true p q x y = x
either look false p q x y = y

request_puts : (look : Lookup) (r : Request) (row : Option OriginalRow) → original_in (look (RowKey.Original (identity_of r.transaction))) ≡ row → PutsOriginal look (carried_out (on_original r row) look).writes
request_puts look r None e =
    elim (request.fresh_ways r look) [
      | inl d ↦ one_original look (identity_of r.transaction) _ [] _ None d.writes tt e tt
      | inr a ↦ one_original look (identity_of r.transaction) _ _ _ None a.writes (refl, (refl, (funds_other a.paying, tt))) e tt
    ]
request_puts look r (Some (OriginalRow.Ahead mark)) e =
    either look (is_marked mark r.transaction OriginalKind.Request) _ _
    (one_original look (identity_of r.transaction) (kept_of_request r (OriginalOutcome.Declined 914 (Some mark.reversal))) [] _ (Some (OriginalRow.Ahead mark)) refl tt e (_, refl, refl)) (inl refl)
request_puts look r (Some (OriginalRow.Kept k)) e = either look (r.repeat && is_of_same k r.transaction OriginalKind.Request) _ _ (inl refl) (inl refl)

advice_puts : (look : Lookup) (a : Advice) (row : Option OriginalRow) → original_in (look (RowKey.Original (identity_of a.transaction))) ≡ row → PutsOriginal look (carried_out (advice_on_original a row) look).writes
advice_puts look a None e =
    elim (advice.fresh_ways a look) [
      | inl d ↦ one_original look (identity_of a.transaction) _ [] _ None d.writes tt e tt
      | inr w ↦ one_original look (identity_of a.transaction) _ _ _ None w.writes (funds_other w.paying, tt) e tt
    ]
advice_puts look a (Some (OriginalRow.Ahead mark)) e =
    either look (is_marked mark a.transaction OriginalKind.Advice) _ _
    (one_original look (identity_of a.transaction) (kept_of_advice a (OriginalOutcome.Acknowledged 900 (Some mark.reversal))) [] _ (Some (OriginalRow.Ahead mark)) refl tt e (_, refl, refl)) (inl refl)
advice_puts look a (Some (OriginalRow.Kept k)) e = either look (a.repeat && is_of_same k a.transaction OriginalKind.Advice) _ _ (inl refl) (inl refl)

-- of the rows that a reversal writes, the original alone is of its kind
pub rest_fresh : (v : Reversal) (k : KeptOriginal) (paid : Funds) (day : Option VelocityRow) → IsFresh 3 (day_put v k day ++ refunded v k paid ∷ [])
rest_fresh v k (Funds.Account id row) None = (refl, tt)
rest_fresh v k (Funds.Budget prefix row) None = (refl, tt)
rest_fresh v k (Funds.Account id row) (Some day) = (refl, (refl, tt))
rest_fresh v k (Funds.Budget prefix row) (Some day) = (refl, (refl, tt))

reversal_puts : (look : Lookup) (v : Reversal) → PutsOriginal look (carried_out (reversal_plan v) look).writes
reversal_puts look v =
    elim (reversal_ways v look) [
      | inl w ↦ inl w.writes
      | inr w1 ↦ elim w1 [
        | inl w ↦ one_original look v.original.identity _ [] _ None w.writes tt w.none tt
        | inr w2 ↦ elim w2 [
          | inl w ↦ inl w.writes
          | inr w3 ↦ elim w3 [
            | inl w ↦
                one_original look v.original.identity _ [] _ (Some (OriginalRow.Kept w.kept)) w.writes tt w.names.stands
                (record { unreversed = w.names.reversal; by = identity_of v.transaction; stay = 0; value = refl })
            | inr s ↦
                one_original look v.original.identity _ _ _ (Some (OriginalRow.Kept s.kept)) s.writes (rest_fresh v s.kept s.paid s.day) s.names.stands
                (record { unreversed = s.names.reversal; by = identity_of v.transaction; stay = _; value = refl })
          ]
        ]
      ]
    ]

pub puts_original : (look : Lookup) (frame : Frame) → PutsOriginal look (decision look frame).writes
unfolding decision
puts_original look (Frame.Good (Message.Request r)) = request_puts look r _ refl
puts_original look (Frame.Good (Message.Advice a)) = advice_puts look a _ refl
puts_original look (Frame.Good (Message.Reversal v)) = reversal_puts look v
puts_original look (Frame.Bad fault) = inl refl

-- an original that is kept, after rows were written
abbrev pub KeptAfter : Rows → Identity → KeptOriginal → Type 0
KeptAfter rows identity k = (later : KeptOriginal) × IsKeptAt rows identity later × Continues k later

-- where its own row is written
reversed_there : (rows : Rows) (identity : Identity) (v : RowVal) (rest ws : Writes) (k : KeptOriginal) → ws ≡ (RowKey.Original identity, v) ∷ rest → IsFresh 3 rest → Reverses k v → KeptAfter (overlay rows ws) identity k
reversed_there rows identity v rest ws k e fresh h = (
  settled k h.by h.stay,
  original_stands rows identity v ws rest e fresh ∙ ap (λ (w : RowVal). original_in (Some w)) h.value,
  inr (record { unreversed = h.unreversed; by = h.by; stay = h.stay; reversed = refl }),
)

pub kept_after_writes : (rows : Rows) (ws : Writes) (identity : Identity) (k : KeptOriginal) → IsKeptAt rows identity k → PutsOriginal (map.get rows) ws → KeptAfter (overlay rows ws) identity k
kept_after_writes rows ws identity k stands (inl e) =
    (k, ap (λ (w : Writes). original_in (map.get (overlay rows w) (RowKey.Original identity))) e ∙ stands, inl refl)
kept_after_writes rows ws identity k stands (inr p) =
    elim (same_or_other (RowKey.Original identity) (RowKey.Original p.0)) [
      | inl same ↦
          let at_its_place = ap (λ (q : RowKey). original_in (map.get rows q)) (sym same) ∙ stands in
          let there = reversed_there rows p.0 p.1 p.2 ws k p.3 p.4 (subst (λ (o : Option OriginalRow). Succeeds o p.1) at_its_place p.5) in
          (there.0, ap (λ (q : RowKey). original_in (map.get (overlay rows ws) q)) same ∙ there.1, there.2)
      | inr other ↦ (
        k,
        ap original_in (ap (λ (w : Writes). map.get (overlay rows w) (RowKey.Original identity)) p.3 ∙ get-fresh (map.insert rows (RowKey.Original p.0) p.1) p.2 (RowKey.Original identity) p.4 ∙ get-other rows (RowKey.Original p.0) p.1 (RowKey.Original identity) other) ∙ stands,
        inl refl,
      )
    ]

-- an original that is reversed has this reversal
pub has_reversal : (o : OriginalOutcome) (by : Identity) (n : ℕ) → reversal_of_outcome (settled_outcome o by n) ≡ Some by
has_reversal (OriginalOutcome.Approved code payment) by n = refl
has_reversal (OriginalOutcome.Declined action other) by n = refl
has_reversal (OriginalOutcome.Accepted payment) by n = refl
has_reversal (OriginalOutcome.Acknowledged action other) by n = refl

-- it is of the same kind
pub same_kind : (o : OriginalOutcome) (by : Identity) (n : ℕ) → kind_of_outcome (settled_outcome o by n) ≡ kind_of_outcome o
same_kind (OriginalOutcome.Approved code payment) by n = refl
same_kind (OriginalOutcome.Declined action other) by n = refl
same_kind (OriginalOutcome.Accepted payment) by n = refl
same_kind (OriginalOutcome.Acknowledged action other) by n = refl

same_action : (o : OriginalOutcome) (by : Identity) (n : ℕ) → action_of_outcome (settled_outcome o by n) ≡ action_of_outcome o
same_action (OriginalOutcome.Approved code payment) by n = refl
same_action (OriginalOutcome.Declined action other) by n = refl
same_action (OriginalOutcome.Accepted payment) by n = refl
same_action (OriginalOutcome.Acknowledged action other) by n = refl

same_approval : (o : OriginalOutcome) (by : Identity) (n : ℕ) → approval_of_outcome (settled_outcome o by n) ≡ approval_of_outcome o
same_approval (OriginalOutcome.Approved code payment) by n = refl
same_approval (OriginalOutcome.Declined action other) by n = refl
same_approval (OriginalOutcome.Accepted payment) by n = refl
same_approval (OriginalOutcome.Acknowledged action other) by n = refl

-- one that is reversed isn't reversed again
not_reversed_again : (k later : KeptOriginal) (by : Identity) (n : ℕ) → k ≡ settled later by n → reversal_of_outcome k.outcome ≡ None → ⊥
not_reversed_again k later by n e none =
    let has = ap (λ (x : KeptOriginal). reversal_of_outcome x.outcome) e ∙ has_reversal later.outcome by n in
    absurd (cc)

continues_on : (first second third : KeptOriginal) → Continues first second → Continues second third → Continues first third
continues_on first second third (inl same) next = subst (λ (k : KeptOriginal). Continues k third) same next
continues_on first second third (inr once) (inl same) = inr (record { unreversed = once.unreversed; by = once.by; stay = once.stay; reversed = same ∙ once.reversed })
continues_on first second third (inr once) (inr again) = absurd (not_reversed_again second first once.by once.stay once.reversed again.unreversed)

-- whatever comes, it stays
pub stays_kept : (frames : List Frame) (rows : Rows) (identity : Identity) (k : KeptOriginal) → StaysKept rows identity k frames
stays_kept [] rows identity k stands = (k, stands, inl refl)
stays_kept (frame ∷ frames) rows identity k stands =
    let next = kept_after_writes rows (writes_of rows frame) identity k stands (puts_original (map.get rows) frame) in
    let last = stays_kept frames (rows_after_one rows frame) identity next.0 next.1 in
    (last.0, last.1, continues_on k next.0 last.0 next.2 last.2)

-- what doesn't change of it
pub same_original : (before after : KeptOriginal) → Continues before after → IsSameOriginal before after
same_original before after (inl same) = record {
  card = ap (λ (k : KeptOriginal). k.card) same;
  amount = ap (λ (k : KeptOriginal). k.amount) same;
  processing = ap (λ (k : KeptOriginal). k.processing) same;
  kind = ap (λ (k : KeptOriginal). kind_of_outcome k.outcome) same;
  action = ap (λ (k : KeptOriginal). action_of_outcome k.outcome) same;
  approval = ap (λ (k : KeptOriginal). approval_of_outcome k.outcome) same;
}
same_original before after (inr once) = record {
  card = ap (λ (k : KeptOriginal). k.card) once.reversed;
  amount = ap (λ (k : KeptOriginal). k.amount) once.reversed;
  processing = ap (λ (k : KeptOriginal). k.processing) once.reversed;
  kind = ap (λ (k : KeptOriginal). kind_of_outcome k.outcome) once.reversed ∙ same_kind before.outcome once.by once.stay;
  action = ap (λ (k : KeptOriginal). action_of_outcome k.outcome) once.reversed ∙ same_action before.outcome once.by once.stay;
  approval = ap (λ (k : KeptOriginal). approval_of_outcome k.outcome) once.reversed ∙ same_approval before.outcome once.by once.stay;
}
