-- A repeat gets the reply that was given first, whatever came between.
use Rattle.std.proofs.Common.{◌≡◌, ℕ, Bool, true, if◌then◌else◌, ◌&&◌, ◌==◌, List, [], Option, Some, None, inl, inr, refl, sym, ap, ◌∙◌, subst}
use Rattle.std.specs.Cmp.Derive.{both_true}
use Rattle.std.specs.FinMap as map
use Rattle.issuer_words.specs.Words.{Advice, Frame, Identity, KeptOriginal, OriginalKind, OriginalOutcome, OriginalRow, Pan, Processing, Request, RowKey, RowVal, Rows, Transaction, action_of_outcome, advice_on_original, answered_unkept, approval_code, decision, declined_unkept, identity_of, is_of_same, is_same_card, is_same_kind, kept_verdict, kind_of_outcome, marked_advice, marked_request, on_original, original_in, paid_by, reply_of, reply_to_advice, reply_to_request, rows_after, rows_after_one, settled_outcome, text_eq, writes_of}
use Rattle.issuer_rows.specs.Plan.{Lookup, Answer, carried_out}
use Rattle.issuer_laws.proofs.AdviceWays as advice
use Rattle.issuer_laws.proofs.Keys.{same_text, same_number, funds_other, original_stands, Outcomes, comes_to}
use Rattle.issuer_laws.proofs.Permanent.{stays_kept, same_original}
use Rattle.issuer_laws.proofs.RequestWays as request
use Rattle.issuer_laws.specs.Messages.{request_frame, advice_frame}
use Rattle.issuer_laws.specs.Permanent.{IsKeptAt, Continues}
use Rattle.issuer_laws.specs.Repeated.{IsLeftTo, repeat_of_request, repeat_of_advice, RequestIsAnsweredAlike, AdviceIsAnsweredAlike}

-- what becomes of a request whose identity wasn't seen
pub request_unseen : (r : Request) (look : Lookup) → original_in (look (RowKey.Original (identity_of r.transaction))) ≡ None → request.IsDecidedFresh r look (decision look (request_frame r))
unfolding decision
request_unseen r look e = subst (λ (o : Option OriginalRow). request.IsDecidedFresh r look (carried_out (on_original r o) look)) (sym e) (request.fresh_ways r look)

-- what becomes of an advice whose identity wasn't seen
pub advice_unseen : (a : Advice) (look : Lookup) → original_in (look (RowKey.Original (identity_of a.transaction))) ≡ None → advice.IsTakenFresh a look (decision look (advice_frame a))
unfolding decision
advice_unseen a look e = subst (λ (o : Option OriginalRow). advice.IsTakenFresh a look (carried_out (advice_on_original a o) look)) (sym e) (advice.fresh_ways a look)

-- what is kept of a message, with what became of it
abbrev pub kept_with : Transaction → OriginalOutcome → KeptOriginal
kept_with t o = record { card = t.pan; amount = t.amount; processing = t.processing; outcome = o }

-- what is kept of a message has its card, amount and processing code
same_message : (t : Transaction) (o : OriginalOutcome) → (text_eq t.pan.0 t.pan.0 && ((t.amount == t.amount) && text_eq t.processing.0 t.processing.0)) ≡ true
same_message t o = both_true (same_text t.pan.0) (both_true (same_number t.amount) (same_text t.processing.0))

-- the repeat of a request that is kept
request_again : (r : Request) (look : Lookup) (k : KeptOriginal) → original_in (look (RowKey.Original (identity_of r.transaction))) ≡ Some (OriginalRow.Kept k) → is_of_same k r.transaction OriginalKind.Request ≡ true → ((decision look (request_frame (repeat_of_request r))).reply ≡ reply_to_request r (kept_verdict k.outcome)) × ((decision look (request_frame (repeat_of_request r))).writes ≡ [])
unfolding decision
request_again r look k e same = (
  ap (λ (o : Option OriginalRow). (carried_out (on_original (repeat_of_request r) o) look).reply) e ∙ ap (λ (b : Bool). (carried_out (if b then Answer (reply_to_request r (kept_verdict k.outcome)) [] else declined_unkept r 913) look).reply) same,
  ap (λ (o : Option OriginalRow). (carried_out (on_original (repeat_of_request r) o) look).writes) e ∙ ap (λ (b : Bool). (carried_out (if b then Answer (reply_to_request r (kept_verdict k.outcome)) [] else declined_unkept r 913) look).writes) same,
)

-- the repeat of an advice that is kept
advice_again : (a : Advice) (look : Lookup) (k : KeptOriginal) → original_in (look (RowKey.Original (identity_of a.transaction))) ≡ Some (OriginalRow.Kept k) → is_of_same k a.transaction OriginalKind.Advice ≡ true → ((decision look (advice_frame (repeat_of_advice a))).reply ≡ reply_to_advice a (action_of_outcome k.outcome)) × ((decision look (advice_frame (repeat_of_advice a))).writes ≡ [])
unfolding decision
advice_again a look k e same = (
  ap (λ (o : Option OriginalRow). (carried_out (advice_on_original (repeat_of_advice a) o) look).reply) e ∙ ap (λ (b : Bool). (carried_out (if b then answered_unkept a (action_of_outcome k.outcome) else answered_unkept a 913) look).reply) same,
  ap (λ (o : Option OriginalRow). (carried_out (advice_on_original (repeat_of_advice a) o) look).writes) e ∙ ap (λ (b : Bool). (carried_out (if b then answered_unkept a (action_of_outcome k.outcome) else answered_unkept a 913) look).writes) same,
)

-- a request was decided first and is kept, so that its repeat is answered alike
record IsKeptRequest (rows : Rows) (r : Request) (k : KeptOriginal) : Type 0 where
  stands : IsKeptAt (rows_after_one rows (request_frame r)) (identity_of r.transaction) k
  same : is_of_same k r.transaction OriginalKind.Request ≡ true
  reply : reply_of rows (request_frame r) ≡ reply_to_request r (kept_verdict k.outcome)

-- what becomes of the first request of an identity, where this row stands
first_request : (rows : Rows) (r : Request) (row : Option OriginalRow) → original_in (map.get rows (RowKey.Original (identity_of r.transaction))) ≡ row → IsLeftTo r.transaction OriginalKind.Request row → (k : KeptOriginal) × IsKeptRequest rows r k
unfolding decision
first_request rows r None e left =
    elim (request_unseen r (map.get rows) e) [
      | inl d ↦
          let k = kept_with r.transaction (OriginalOutcome.Declined d.action None) in
          (k, record { stands = original_stands rows (identity_of r.transaction) _ _ [] d.writes tt; same = same_message r.transaction k.outcome; reply = d.reply })
      | inr a ↦
          let k = kept_with r.transaction (OriginalOutcome.Approved (approval_code a.card) (paid_by a.paying)) in
          (k, record { stands = original_stands rows (identity_of r.transaction) _ _ _ a.writes (refl, (refl, (funds_other a.paying, tt))); same = same_message r.transaction k.outcome; reply = a.reply })
    ]
first_request rows r (Some (OriginalRow.Ahead mark)) e left =
    let k = kept_with r.transaction (OriginalOutcome.Declined 914 (Some mark.reversal)) in
    let comes = ap (λ (o : Option OriginalRow). comes_to (on_original r o) (map.get rows)) e ∙ ap (λ (b : Bool). comes_to (if b then marked_request r mark else declined_unkept r 913) (map.get rows)) left in (
      k,
      record {
        stands = original_stands rows (identity_of r.transaction) (RowVal.Kept k) (writes_of rows (request_frame r)) [] (ap (λ (o : Outcomes). o.1) comes) tt;
        same = same_message r.transaction k.outcome;
        reply = ap (λ (o : Outcomes). o.0) comes;
      },
    )
first_request rows r (Some (OriginalRow.Kept k)) e left = absurd left

-- an original that continues one is answered alike
same_verdict : (o : OriginalOutcome) (by : Identity) (n : ℕ) → kept_verdict (settled_outcome o by n) ≡ kept_verdict o
same_verdict (OriginalOutcome.Approved code payment) by n = refl
same_verdict (OriginalOutcome.Declined action other) by n = refl
same_verdict (OriginalOutcome.Accepted payment) by n = refl
same_verdict (OriginalOutcome.Acknowledged action other) by n = refl

verdict_continues : (k later : KeptOriginal) → Continues k later → kept_verdict later.outcome ≡ kept_verdict k.outcome
verdict_continues k later (inl same) = ap (λ (x : KeptOriginal). kept_verdict x.outcome) same
verdict_continues k later (inr once) = ap (λ (x : KeptOriginal). kept_verdict x.outcome) once.reversed ∙ same_verdict k.outcome once.by once.stay

same_continues : (k later : KeptOriginal) (t : Transaction) (of : OriginalKind) → Continues k later → is_of_same later t of ≡ is_of_same k t of
same_continues k later t of c =
    let s = same_original k later c in
    ap (λ (x : OriginalKind). is_same_kind x of && (is_same_card later.card t.pan && ((later.amount == t.amount) && text_eq later.processing.0 t.processing.0))) s.kind
    ∙ ap (λ (x : Pan). is_same_kind (kind_of_outcome k.outcome) of && (is_same_card x t.pan && ((later.amount == t.amount) && text_eq later.processing.0 t.processing.0))) s.card
    ∙ ap (λ (x : ℕ). is_same_kind (kind_of_outcome k.outcome) of && (is_same_card k.card t.pan && ((x == t.amount) && text_eq later.processing.0 t.processing.0))) s.amount
    ∙ ap (λ (x : Processing). is_same_kind (kind_of_outcome k.outcome) of && (is_same_card k.card t.pan && ((k.amount == t.amount) && text_eq x.0 t.processing.0))) s.processing

-- of a request, and its repeat behind these bodies
pub request_repeated : (rows : Rows) (r : Request) (between : List Frame) → RequestIsAnsweredAlike rows r between
request_repeated rows r between left =
    let first = first_request rows r _ refl left in
    let later = stays_kept between (rows_after_one rows (request_frame r)) (identity_of r.transaction) first.0 first.1.stands in
    let again = request_again r (map.get (rows_after (rows_after_one rows (request_frame r)) between)) later.0 later.1 (same_continues first.0 later.0 r.transaction OriginalKind.Request later.2 ∙ first.1.same) in
    (again.0 ∙ ap (reply_to_request r) (verdict_continues first.0 later.0 later.2) ∙ sym first.1.reply, again.1)

-- an advice was taken first and is kept, so that its repeat is answered alike
record IsKeptAdvice (rows : Rows) (a : Advice) (k : KeptOriginal) : Type 0 where
  stands : IsKeptAt (rows_after_one rows (advice_frame a)) (identity_of a.transaction) k
  same : is_of_same k a.transaction OriginalKind.Advice ≡ true
  reply : reply_of rows (advice_frame a) ≡ reply_to_advice a (action_of_outcome k.outcome)

-- what becomes of the first advice of an identity, where this row stands
first_advice : (rows : Rows) (a : Advice) (row : Option OriginalRow) → original_in (map.get rows (RowKey.Original (identity_of a.transaction))) ≡ row → IsLeftTo a.transaction OriginalKind.Advice row → (k : KeptOriginal) × IsKeptAdvice rows a k
unfolding decision
first_advice rows a None e left =
    elim (advice_unseen a (map.get rows) e) [
      | inl d ↦
          let k = kept_with a.transaction (OriginalOutcome.Acknowledged 900 None) in
          (k, record { stands = original_stands rows (identity_of a.transaction) _ _ [] d.writes tt; same = same_message a.transaction k.outcome; reply = d.reply })
      | inr w ↦
          let k = kept_with a.transaction (OriginalOutcome.Accepted (paid_by w.paying)) in
          (k, record { stands = original_stands rows (identity_of a.transaction) _ _ _ w.writes (funds_other w.paying, tt); same = same_message a.transaction k.outcome; reply = w.reply })
    ]
first_advice rows a (Some (OriginalRow.Ahead mark)) e left =
    let k = kept_with a.transaction (OriginalOutcome.Acknowledged 900 (Some mark.reversal)) in
    let comes = ap (λ (o : Option OriginalRow). comes_to (advice_on_original a o) (map.get rows)) e ∙ ap (λ (b : Bool). comes_to (if b then marked_advice a mark else answered_unkept a 913) (map.get rows)) left in (
      k,
      record {
        stands = original_stands rows (identity_of a.transaction) (RowVal.Kept k) (writes_of rows (advice_frame a)) [] (ap (λ (o : Outcomes). o.1) comes) tt;
        same = same_message a.transaction k.outcome;
        reply = ap (λ (o : Outcomes). o.0) comes;
      },
    )
first_advice rows a (Some (OriginalRow.Kept k)) e left = absurd left

-- of an advice, and its repeat behind these bodies
pub advice_repeated : (rows : Rows) (a : Advice) (between : List Frame) → AdviceIsAnsweredAlike rows a between
advice_repeated rows a between left =
    let first = first_advice rows a _ refl left in
    let later = stays_kept between (rows_after_one rows (advice_frame a)) (identity_of a.transaction) first.0 first.1.stands in
    let again = advice_again a (map.get (rows_after (rows_after_one rows (advice_frame a)) between)) later.0 later.1 (same_continues first.0 later.0 a.transaction OriginalKind.Advice later.2 ∙ first.1.same) in
    (again.0 ∙ ap (reply_to_advice a) ((same_original first.0 later.0 later.2).action) ∙ sym first.1.reply, again.1)
