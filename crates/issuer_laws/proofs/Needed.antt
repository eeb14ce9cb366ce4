-- What a message needs and writes, whatever was decided before it, is among the rows that the opening book says it may need.
use Rattle.std.proofs.Common.{◌≡◌, ◌≢◌, ℕ, Bool, true, false, if◌then◌else◌, ◌&&◌, ◌==◌, List, [], ◌∷◌, ◌++◌, Option, Some, None, Result, Ok, Err, ◌⊎◌, inl, inr, refl, sym, ap, ◌∙◌, subst}
use Rattle.std.proofs.lemmas.Bool.{and_parts}
use Rattle.std.specs.FinMap as map
use Rattle.std.specs.List.{AllByRecursion}
use Rattle.issuer_words.specs.Words.{AccountId, AccountRow, Advice, BudgetRow, CardRow, Frame, Funds, Identity, KeptOriginal, Lookup, Message, OriginalKind, OriginalOutcome, OriginalRow, Pan, PanPrefix, Payer, Payment, Plan, ReplyBody, Request, Reversal, RowKey, RowVal, Rows, VelocityRow, Writes, account_in, account_of, acknowledged, advice_funds, advice_on_account, advice_on_card, advice_on_funds, advice_on_named, advice_on_original, approved_card, budget_in, by_kind, by_payer, card_in, carried_out, day_is_short, day_of, decision, declined_request, identity_of, is_marked, is_named, is_of_same, is_overfull, is_same_card, is_same_currency, is_same_identity, is_wrong_part, key_of_funds, kind_of_outcome, on_account, on_card, on_funds, on_original, on_original_day, on_paid, on_payment, on_reversal, on_reversed, on_usable, original_in, overlay, payer_of, payment_of_outcome, prefix_of, refunded, refused_by_limits, refused_unseen, request_funds, reversal_of_outcome, reversal_plan, reversed_advice, reversed_original, row_of_funds, rows_after_one, settled, settled_outcome, spent_in, unless_refused, usable_account, velocity_in, with_balance, writes_of}
use Rattle.issuer_laws.proofs.AdviceWays as advice
use Rattle.issuer_laws.proofs.Funding.{IsFound, IsOfCard, IsOwn, account_own}
use Rattle.issuer_laws.proofs.Keys.{get-put, get-other, same_or_other, texts_same}
use Rattle.issuer_laws.proofs.RequestWays as request
use Rattle.issuer_laws.proofs.ReversalWays.{SettlesPosted, Names, day_put, reversal_ways}
use Rattle.issuer_laws.specs.Messages.{request_frame, advice_frame, reversal_frame}
use Rattle.issuer_laws.specs.Parts.{IsIn, account_keys, accounts_at, if_there, budget_at, payer_keys, payment_keys, paying_keys, payer_at, funds_at, may_need, MayLook}

-- ---- lists

pub in_front : (k : RowKey) (xs ys : List RowKey) → IsIn k xs → IsIn k (xs ++ ys)
in_front k [] ys h = absurd h
in_front k (x ∷ xs) ys (inl e) = inl e
in_front k (x ∷ xs) ys (inr h) = inr (in_front k xs ys h)

pub in_back : (k : RowKey) (xs ys : List RowKey) → IsIn k ys → IsIn k (xs ++ ys)
in_back k [] ys h = h
in_back k (x ∷ xs) ys h = inr (in_back k xs ys h)

-- each of these is among those
abbrev pub AreIn : List RowKey → List RowKey → Type 0
AreIn xs ys = AllByRecursion (λ x. IsIn x ys) xs

are_in_front : (xs ys zs : List RowKey) → AreIn xs ys → AreIn xs (ys ++ zs)
are_in_front [] ys zs h = tt
are_in_front (x ∷ xs) ys zs h = (in_front x ys zs h.0, are_in_front xs ys zs h.1)

-- either of two parts of a list
either_part : (k : RowKey) (xs ys : List RowKey) → IsIn k (xs ++ ys) → IsIn k xs ⊎ IsIn k ys
either_part k [] ys h = inr h
either_part k (x ∷ xs) ys (inl e) = inl (inl e)
either_part k (x ∷ xs) ys (inr h) =
    elim (either_part k xs ys h) [
      | inl here ↦ inl (inr here)
      | inr there ↦ inr there
    ]

-- ---- rows behind a batch's first messages

-- What messages before leave as it was in the opening book: the accounts of each card; prefixes without a budget; and who paid for an
-- original is who paid for it in the opening book, or an account of its card.
pub record IsFollowing (opening rows : Rows) : Type 0 where
  pub cards : (pan : Pan) → account_keys (card_in (map.get rows (RowKey.Card pan))) ≡ accounts_at opening pan
  pub budgets : (prefix : PanPrefix) → map.get opening (RowKey.Budget prefix) ≡ None → map.get rows (RowKey.Budget prefix) ≡ None
  pub payers : (identity : Identity) (k : KeptOriginal) → original_in (map.get rows (RowKey.Original identity)) ≡ Some (OriginalRow.Kept k) → AreIn (payment_keys (payment_of_outcome k.outcome)) (payer_at opening identity ++ accounts_at opening k.card)

opening_payers : (identity : Identity) (opening : Rows) (row : Option OriginalRow) (k : KeptOriginal) (more : List RowKey) → row ≡ Some (OriginalRow.Kept k) → AreIn (payment_keys (payment_of_outcome k.outcome)) (paying_keys row ++ more)
opening_payers identity opening row k more e =
    subst (λ (o : Option OriginalRow). AreIn (payment_keys (payment_of_outcome k.outcome)) (paying_keys o ++ more)) (sym e)
    (are_in_front (payment_keys (payment_of_outcome k.outcome)) (payment_keys (payment_of_outcome k.outcome)) more (all_in (payment_of_outcome k.outcome)))
  where
    payer_in : (p : Payer) → AreIn (payer_keys p) (payer_keys p)
    payer_in (Payer.Account id) = (inl refl, tt)
    payer_in Payer.Budget = tt

    all_in : (p : Option Payment) → AreIn (payment_keys p) (payment_keys p)
    all_in None = tt
    all_in (Some payment) = payer_in payment.payer

-- the opening book itself
pub follows_itself : (opening : Rows) → IsFollowing opening opening
follows_itself opening = record {
  cards = λ pan. refl;
  budgets = λ prefix e. e;
  payers = λ identity k e. opening_payers identity opening _ k (accounts_at opening k.card) e;
}

-- ---- what is written

-- an original of the same card stood there, and who paid for it paid for this one
record IsPaidAsBefore (row : Option OriginalRow) (k : KeptOriginal) : Type 0 where
  before : KeptOriginal
  stood : row ≡ Some (OriginalRow.Kept before)
  card : before.card ≡ k.card
  payers : payment_keys (payment_of_outcome k.outcome) ≡ payment_keys (payment_of_outcome before.outcome)

-- what is said of a row that is written, by its kind: who paid for an original is who paid before, or its card's; a card keeps its accounts; a
-- budget was there
abbrev IsProper : Lookup → RowKey → RowVal → Type 0
IsProper look (RowKey.Original identity) (RowVal.Kept k) =
    AreIn (payment_keys (payment_of_outcome k.outcome)) (account_keys (card_in (look (RowKey.Card k.card)))) ⊎ IsPaidAsBefore (original_in (look (RowKey.Original identity))) k
IsProper look (RowKey.Original identity) (RowVal.Ahead mark) = Unit {0}
IsProper look (RowKey.Original identity) (RowVal.Card row) = ⊥
IsProper look (RowKey.Original identity) (RowVal.Velocity row) = ⊥
IsProper look (RowKey.Original identity) (RowVal.Budget row) = ⊥
IsProper look (RowKey.Original identity) (RowVal.Account row) = ⊥
IsProper look (RowKey.Card pan) v = account_keys (card_in (Some v)) ≡ account_keys (card_in (look (RowKey.Card pan)))
IsProper look (RowKey.Velocity pan day) v = Unit {0}
IsProper look (RowKey.Budget prefix) v = look (RowKey.Budget prefix) ≢ None
IsProper look (RowKey.Account id) v = Unit {0}

-- it is so, and its key is among those that the message may need
record IsOwnRow (opening : Rows) (look : Lookup) (frame : Frame) (w : RowKey × RowVal) : Type 0 where
  proper : IsProper look w.0 w.1
  key : IsIn w.0 (may_need opening frame)

abbrev AreOwn : Rows → Lookup → Frame → Writes → Type 0
AreOwn opening look frame ws = AllByRecursion (IsOwnRow opening look frame) ws

-- a budget that is found is there
is_there : (o : Option RowVal) (b : BudgetRow) → budget_in o ≡ Some b → o ≢ None
is_there o b e none = let gone = ap budget_in none in absurd (cc)

there_in : (k : RowKey) (o : Option RowVal) → o ≢ None → IsIn k (if_there k o)
there_in k None h = absurd (h refl)
there_in k (Some v) h = inl refl

not_gone : (opening rows : Rows) → IsFollowing opening rows → (prefix : PanPrefix) → map.get rows (RowKey.Budget prefix) ≢ None → map.get opening (RowKey.Budget prefix) ≢ None
not_gone opening rows h prefix there none = there (h.budgets prefix none)

-- what pays for a card's message is among what it may be paid from
funds_in : (opening rows : Rows) → IsFollowing opening rows → (pan : Pan) (f : Funds) → IsFound (map.get rows) f → IsOfCard pan f → IsOwn (map.get rows) pan f → IsIn (key_of_funds f) (funds_at opening pan)
funds_in opening rows h pan (Funds.Account id row) found of_card own =
    in_front (RowKey.Account id) (accounts_at opening pan) (budget_at opening pan) (subst (IsIn (RowKey.Account id)) (h.cards pan) own)
funds_in opening rows h pan (Funds.Budget prefix row) found of_card own =
    in_back (RowKey.Budget prefix) (accounts_at opening pan) (budget_at opening pan)
    (subst (λ (p : PanPrefix). IsIn (RowKey.Budget p) (budget_at opening pan)) (sym of_card)
    (there_in (RowKey.Budget (prefix_of pan)) _ (not_gone opening rows h (prefix_of pan) (subst (λ (p : PanPrefix). map.get rows (RowKey.Budget p) ≢ None) of_card (is_there _ row found)))))

funds_proper : (look : Lookup) (f : Funds) (n : ℕ) → IsFound look f → IsProper look (key_of_funds f) (row_of_funds (with_balance f n))
funds_proper look (Funds.Account id row) n found = tt
funds_proper look (Funds.Budget prefix row) n found = is_there _ row found

own_payers : (look : Lookup) (pan : Pan) (f : Funds) → IsOwn look pan f → AreIn (payer_keys (payer_of f)) (account_keys (card_in (look (RowKey.Card pan))))
own_payers look pan (Funds.Account id row) own = (own, tt)
own_payers look pan (Funds.Budget prefix row) own = tt

these : (opening : Rows) (look : Lookup) (frame : Frame) (ws writes : Writes) → writes ≡ ws → AreOwn opening look frame ws → AreOwn opening look frame writes
these opening look frame ws writes e h = subst (AreOwn opening look frame) (sym e) h

either : (opening : Rows) (look : Lookup) (frame : Frame) (b : Bool) (p q : Plan) → AreOwn opening look frame (carried_out p look).writes → AreOwn opening look frame (carried_out q look).writes → AreOwn opening look frame (carried_out (if b then p else q) look).writes
either opening look frame true p q x y = x
either opening look frame false p q x y = y

card_kept : (o : Option RowVal) (card : CardRow) → card_in o ≡ Some card → account_keys (card_in (Some (RowVal.Card (approved_card card)))) ≡ account_keys (card_in o)
card_kept o card e = ap account_keys (sym e)

request_own : (opening rows : Rows) → IsFollowing opening rows → (r : Request) (row : Option OriginalRow) → AreOwn opening (map.get rows) (Frame.Good (Message.Request r)) (carried_out (on_original r row) (map.get rows)).writes
request_own opening rows h r None =
    elim (request.fresh_ways r (map.get rows)) [
      | inl d ↦ these opening (map.get rows) _ _ _ d.writes (record { proper = inl tt; key = inr (inl refl) }, tt)
      | inr a ↦
          these opening (map.get rows) _ _ _ a.writes (
            record { proper = inl (own_payers (map.get rows) r.transaction.pan a.paying a.pays.own); key = inr (inl refl) },
            (
              record { proper = card_kept _ a.card a.stands; key = inr (inr (inl refl)) },
              (
                record { proper = tt; key = inl refl },
                (
                  record {
                    proper = funds_proper (map.get rows) a.paying _ a.pays.found;
                    key = inr (inr (inr (funds_in opening rows h r.transaction.pan a.paying a.pays.found a.pays.of_card a.pays.own)));
                  },
                  tt,
                ),
              ),
            ),
          )
    ]
request_own opening rows h r (Some (OriginalRow.Ahead mark)) =
    either opening (map.get rows) _ (is_marked mark r.transaction OriginalKind.Request) _ _ (record { proper = inl tt; key = inr (inl refl) }, tt) tt
request_own opening rows h r (Some (OriginalRow.Kept k)) =
    either opening (map.get rows) _ (r.repeat && is_of_same k r.transaction OriginalKind.Request) _ _ tt tt

advice_own : (opening rows : Rows) → IsFollowing opening rows → (a : Advice) (row : Option OriginalRow) → AreOwn opening (map.get rows) (Frame.Good (Message.Advice a)) (carried_out (advice_on_original a row) (map.get rows)).writes
advice_own opening rows h a None =
    elim (advice.fresh_ways a (map.get rows)) [
      | inl d ↦ these opening (map.get rows) _ _ _ d.writes (record { proper = inl tt; key = inl refl }, tt)
      | inr w ↦
          these opening (map.get rows) _ _ _ w.writes (
            record { proper = inl (own_payers (map.get rows) a.transaction.pan w.paying w.pays.own); key = inl refl },
            (
              record {
                proper = funds_proper (map.get rows) w.paying _ w.pays.found;
                key = inr (inr (funds_in opening rows h a.transaction.pan w.paying w.pays.found w.pays.of_card w.pays.own));
              },
              tt,
            ),
          )
    ]
advice_own opening rows h a (Some (OriginalRow.Ahead mark)) =
    either opening (map.get rows) _ (is_marked mark a.transaction OriginalKind.Advice) _ _ (record { proper = inl tt; key = inl refl }, tt) tt
advice_own opening rows h a (Some (OriginalRow.Kept k)) =
    either opening (map.get rows) _ (a.repeat && is_of_same k a.transaction OriginalKind.Advice) _ _ tt tt

same_card : (v : Reversal) (k : KeptOriginal) → is_named v k ≡ true → k.card ≡ v.transaction.pan
same_card v k named = let digits = texts_same k.card.0 v.transaction.pan.0 ((and_parts (is_same_card k.card v.transaction.pan) _ named).0) in λ i. record { 0 = digits i }

-- a reversal leaves who paid
settled_keys : (o : OriginalOutcome) (by : Identity) (n : ℕ) → payment_keys (payment_of_outcome (settled_outcome o by n)) ≡ payment_keys (payment_of_outcome o)
settled_keys (OriginalOutcome.Approved code payment) by n = refl
settled_keys (OriginalOutcome.Declined action other) by n = refl
settled_keys (OriginalOutcome.Accepted payment) by n = refl
settled_keys (OriginalOutcome.Acknowledged action other) by n = refl

settled_proper : (look : Lookup) (identity : Identity) (k : KeptOriginal) (by : Identity) (n : ℕ) → original_in (look (RowKey.Original identity)) ≡ Some (OriginalRow.Kept k) → IsProper look (RowKey.Original identity) (RowVal.Kept (settled k by n))
settled_proper look identity k by n stands = inr (record { before = k; stood = stands; card = refl; payers = settled_keys k.outcome by n })

-- the account that paid for an original of this card is among what its reversal may need
payer_needed : (opening rows : Rows) → IsFollowing opening rows → (v : Reversal) (k : KeptOriginal) (payment : Payment) (id : AccountId) → Names v (map.get rows) k None → payment_of_outcome k.outcome ≡ Some payment → payment.payer ≡ Payer.Account id → IsIn (RowKey.Account id) (payer_at opening v.original.identity ++ funds_at opening v.transaction.pan)
payer_needed opening rows h v k payment id names posted payer =
    let among = h.payers v.original.identity k names.stands in
    let one = subst (λ (p : Option Payment). AreIn (payment_keys p) (payer_at opening v.original.identity ++ accounts_at opening k.card)) posted among in
    let own = subst (λ (p : Payer). AreIn (payer_keys p) (payer_at opening v.original.identity ++ accounts_at opening k.card)) payer one in
    elim (either_part (RowKey.Account id) (payer_at opening v.original.identity) (accounts_at opening k.card) own.0) [
      | inl before ↦ in_front (RowKey.Account id) (payer_at opening v.original.identity) (funds_at opening v.transaction.pan) before
      | inr account ↦
          in_back (RowKey.Account id) (payer_at opening v.original.identity) (funds_at opening v.transaction.pan)
          (in_front (RowKey.Account id) (accounts_at opening v.transaction.pan) (budget_at opening v.transaction.pan)
          (subst (λ (p : Pan). IsIn (RowKey.Account id) (accounts_at opening p)) (same_card v k names.named) account))
    ]

-- and so is the budget of its prefix, where it has one
budget_needed : (opening rows : Rows) → IsFollowing opening rows → (v : Reversal) (k : KeptOriginal) → is_named v k ≡ true → map.get rows (RowKey.Budget (prefix_of k.card)) ≢ None → IsIn (RowKey.Budget (prefix_of k.card)) (payer_at opening v.original.identity ++ funds_at opening v.transaction.pan)
budget_needed opening rows h v k named there =
    in_back (RowKey.Budget (prefix_of k.card)) (payer_at opening v.original.identity) (funds_at opening v.transaction.pan)
    (in_back (RowKey.Budget (prefix_of k.card)) (accounts_at opening v.transaction.pan) (budget_at opening v.transaction.pan)
    (subst (λ (p : Pan). IsIn (RowKey.Budget (prefix_of k.card)) (budget_at opening p)) (same_card v k named)
    (there_in (RowKey.Budget (prefix_of k.card)) _ (not_gone opening rows h (prefix_of k.card) there))))

paid_in : (opening rows : Rows) → IsFollowing opening rows → (v : Reversal) (k : KeptOriginal) (payment : Payment) (paid : Funds) → Names v (map.get rows) k None → payment_of_outcome k.outcome ≡ Some payment → IsFound (map.get rows) paid → IsOfCard k.card paid → payer_of paid ≡ payment.payer → IsIn (key_of_funds paid) (payer_at opening v.original.identity ++ funds_at opening v.transaction.pan)
paid_in opening rows h v k payment (Funds.Account id row) names posted found of_card payer = payer_needed opening rows h v k payment id names posted (sym payer)
paid_in opening rows h v k payment (Funds.Budget prefix row) names posted found of_card payer =
    subst (λ (p : PanPrefix). IsIn (RowKey.Budget p) (payer_at opening v.original.identity ++ funds_at opening v.transaction.pan)) (sym of_card)
    (budget_needed opening rows h v k names.named (subst (λ (p : PanPrefix). map.get rows (RowKey.Budget p) ≢ None) of_card (is_there _ row found)))

day_needed : (opening : Rows) (v : Reversal) (k : KeptOriginal) → is_named v k ≡ true → IsIn (RowKey.Velocity k.card (day_of v.original.identity.stamp)) (may_need opening (Frame.Good (Message.Reversal v)))
day_needed opening v k named = inr (inl (ap (λ (p : Pan). RowKey.Velocity p (day_of v.original.identity.stamp)) (same_card v k named)))

posted_own : (opening rows : Rows) → IsFollowing opening rows → (v : Reversal) (reply : ReplyBody) (writes : Writes) (s : SettlesPosted v (map.get rows) reply writes) (day : Option VelocityRow) → AreOwn opening (map.get rows) (Frame.Good (Message.Reversal v)) (reversed_original v s.kept ∷ (day_put v s.kept day ++ refunded v s.kept s.paid ∷ []))
posted_own opening rows h v reply writes s None = (
  record { proper = settled_proper (map.get rows) v.original.identity s.kept _ _ s.names.stands; key = inl refl },
  (
    record {
      proper = funds_proper (map.get rows) s.paid _ s.found;
      key = inr (inr (paid_in opening rows h v s.kept s.payment s.paid s.names s.posted s.found s.of_card s.payer));
    },
    tt,
  ),
)
posted_own opening rows h v reply writes s (Some day) = (
  record { proper = settled_proper (map.get rows) v.original.identity s.kept _ _ s.names.stands; key = inl refl },
  (
    record { proper = tt; key = day_needed opening v s.kept s.names.named },
    (
      record {
        proper = funds_proper (map.get rows) s.paid _ s.found;
        key = inr (inr (paid_in opening rows h v s.kept s.payment s.paid s.names s.posted s.found s.of_card s.payer));
      },
      tt,
    ),
  ),
)

reversal_own : (opening rows : Rows) → IsFollowing opening rows → (v : Reversal) → AreOwn opening (map.get rows) (Frame.Good (Message.Reversal v)) (carried_out (reversal_plan v) (map.get rows)).writes
reversal_own opening rows h v =
    elim (reversal_ways v (map.get rows)) [
      | inl w ↦ these opening (map.get rows) _ [] _ w.writes tt
      | inr w1 ↦ elim w1 [
        | inl w ↦ these opening (map.get rows) _ _ _ w.writes (record { proper = tt; key = inl refl }, tt)
        | inr w2 ↦ elim w2 [
          | inl w ↦ these opening (map.get rows) _ [] _ w.writes tt
          | inr w3 ↦ elim w3 [
            | inl w ↦
                these opening (map.get rows) _ _ _ w.writes
                (record { proper = settled_proper (map.get rows) v.original.identity w.kept _ _ w.names.stands; key = inl refl }, tt)
            | inr s ↦ these opening (map.get rows) _ _ _ s.writes (posted_own opening rows h v _ _ s s.day)
          ]
        ]
      ]
    ]

writes_own : (opening rows : Rows) → IsFollowing opening rows → (frame : Frame) → AreOwn opening (map.get rows) frame (writes_of rows frame)
unfolding decision
writes_own opening rows h (Frame.Good (Message.Request r)) = request_own opening rows h r _
writes_own opening rows h (Frame.Good (Message.Advice a)) = advice_own opening rows h a _
writes_own opening rows h (Frame.Good (Message.Reversal v)) = reversal_own opening rows h v
writes_own opening rows h (Frame.Bad fault) = tt

-- what is written may be needed
pub written_needed : (opening rows : Rows) → IsFollowing opening rows → (frame : Frame) → AllByRecursion (λ w. IsIn w.0 (may_need opening frame)) (writes_of rows frame)
written_needed opening rows h frame = keys (writes_of rows frame) (writes_own opening rows h frame)
  where
    keys : (ws : Writes) → AreOwn opening (map.get rows) frame ws → AllByRecursion (λ w. IsIn w.0 (may_need opening frame)) ws
    keys [] h = tt
    keys (w ∷ ws) h = (h.0.key, keys ws h.1)

-- ---- one message more

-- what stands under a key behind rows that were written: one that was written there, or what stood there
pub written_or_same : (P : RowKey × RowVal → Type 0) (rows : Rows) (ws : Writes) (q : RowKey) → AllByRecursion P ws → ((v : RowVal) × P (q, v) × (map.get (overlay rows ws) q ≡ Some v)) ⊎ (map.get (overlay rows ws) q ≡ map.get rows q)
written_or_same P rows [] q all = inr refl
written_or_same P rows (w ∷ ws) q all =
    elim (written_or_same P (map.insert rows w.0 w.1) ws q all.1) [
      | inl later ↦ inl later
      | inr same ↦ elim (same_or_other q w.0) [
        | inl own ↦ inl (w.1, subst (λ (k : RowKey). P (k, w.1)) (sym own) all.0, same ∙ ap (map.get (map.insert rows w.0 w.1)) own ∙ get-put rows w.0 w.1)
        | inr other ↦ inr (same ∙ get-other rows w.0 w.1 q other)
      ]
    ]

proper_of : (opening : Rows) (look : Lookup) (frame : Frame) (ws : Writes) → AreOwn opening look frame ws → AllByRecursion (λ w. IsProper look w.0 w.1) ws
proper_of opening look frame [] h = tt
proper_of opening look frame (w ∷ ws) h = (h.0.proper, proper_of opening look frame ws h.1)

kept_proper : (opening rows : Rows) → IsFollowing opening rows → (identity : Identity) (v : RowVal) (k : KeptOriginal) → IsProper (map.get rows) (RowKey.Original identity) v → original_in (Some v) ≡ Some (OriginalRow.Kept k) → AreIn (payment_keys (payment_of_outcome k.outcome)) (payer_at opening identity ++ accounts_at opening k.card)
kept_proper opening rows h identity (RowVal.Kept l) k proper e =
    let same : l ≡ k = cc in
    by_payers (subst (λ (x : KeptOriginal). IsProper (map.get rows) (RowKey.Original identity) (RowVal.Kept x)) same proper)
  where
    are_in_back : (xs ys zs : List RowKey) → AreIn xs zs → AreIn xs (ys ++ zs)
    are_in_back [] ys zs a = tt
    are_in_back (x ∷ xs) ys zs a = (in_back x ys zs a.0, are_in_back xs ys zs a.1)

    by_payers : IsProper (map.get rows) (RowKey.Original identity) (RowVal.Kept k) → AreIn (payment_keys (payment_of_outcome k.outcome)) (payer_at opening identity ++ accounts_at opening k.card)
    by_payers (inl own) =
        are_in_back (payment_keys (payment_of_outcome k.outcome)) (payer_at opening identity) (accounts_at opening k.card)
        (subst (AreIn (payment_keys (payment_of_outcome k.outcome))) (h.cards k.card) own)
    by_payers (inr was) =
        subst (λ (p : Pan). AreIn (payment_keys (payment_of_outcome k.outcome)) (payer_at opening identity ++ accounts_at opening p)) was.card
        (subst (λ (ks : List RowKey). AreIn ks (payer_at opening identity ++ accounts_at opening was.before.card)) (sym was.payers) (h.payers identity was.before was.stood))
kept_proper opening rows h identity (RowVal.Ahead mark) k proper e = absurd (cc)
kept_proper opening rows h identity (RowVal.Card row) k proper e = absurd proper
kept_proper opening rows h identity (RowVal.Velocity row) k proper e = absurd proper
kept_proper opening rows h identity (RowVal.Budget row) k proper e = absurd proper
kept_proper opening rows h identity (RowVal.Account row) k proper e = absurd proper

-- what a message leaves
pub follows_one : (opening rows : Rows) → IsFollowing opening rows → (frame : Frame) → IsFollowing opening (rows_after_one rows frame)
follows_one opening rows h frame =
    let proper : AllByRecursion (λ w. IsProper (map.get rows) w.0 w.1) (writes_of rows frame) = proper_of opening (map.get rows) frame (writes_of rows frame) (writes_own opening rows h frame) in
    let stands = λ (q : RowKey). written_or_same (λ w. IsProper (map.get rows) w.0 w.1) rows (writes_of rows frame) q proper in
    record {
      cards = λ pan. elim (stands (RowKey.Card pan)) [
        | inl w ↦ ap (λ (o : Option RowVal). account_keys (card_in o)) w.2 ∙ w.1 ∙ h.cards pan
        | inr same ↦ ap (λ (o : Option RowVal). account_keys (card_in o)) same ∙ h.cards pan
      ];
      budgets = λ prefix none. elim (stands (RowKey.Budget prefix)) [
        | inl w ↦ absurd (w.1 (h.budgets prefix none))
        | inr same ↦ same ∙ h.budgets prefix none
      ];
      payers = λ identity k e. elim (stands (RowKey.Original identity)) [
        | inl w ↦ kept_proper opening rows h identity w.0 k w.1 (sym (ap original_in w.2) ∙ e)
        | inr same ↦ h.payers identity k (sym (ap original_in same) ∙ e)
      ];
    }

-- ---- what is looked at

-- what a plan looks at
abbrev LooksOwn : Rows → Lookup → Frame → Plan → Type 0
LooksOwn opening look frame plan = AllByRecursion (MayLook opening frame) (carried_out plan look).needs

either_looks : (opening : Rows) (look : Lookup) (frame : Frame) (b : Bool) (p q : Plan) → (b ≡ true → LooksOwn opening look frame p) → (b ≡ false → LooksOwn opening look frame q) → LooksOwn opening look frame (if b then p else q)
either_looks opening look frame true p q x y = x refl
either_looks opening look frame false p q x y = y refl

there_or_none : (opening : Rows) (prefix : PanPrefix) (front : List RowKey) (row : Option RowVal) → map.get opening (RowKey.Budget prefix) ≡ row → IsIn (RowKey.Budget prefix) (front ++ if_there (RowKey.Budget prefix) row) ⊎ (map.get opening (RowKey.Budget prefix) ≡ None)
there_or_none opening prefix front None e = inr e
there_or_none opening prefix front (Some v) e = inl (in_back (RowKey.Budget prefix) front (RowKey.Budget prefix ∷ []) (inl refl))

-- the budget of a card's prefix is among what the card's messages may be paid from, or isn't there
budget_looks : (opening : Rows) (pan : Pan) → IsIn (RowKey.Budget (prefix_of pan)) (funds_at opening pan) ⊎ (map.get opening (RowKey.Budget (prefix_of pan)) ≡ None)
budget_looks opening pan = there_or_none opening (prefix_of pan) (accounts_at opening pan) _ refl

may_look_budget : (opening : Rows) (frame : Frame) (pan : Pan) → (IsIn (RowKey.Budget (prefix_of pan)) (funds_at opening pan) → IsIn (RowKey.Budget (prefix_of pan)) (may_need opening frame)) → MayLook opening frame (RowKey.Budget (prefix_of pan))
may_look_budget opening frame pan into =
    elim (budget_looks opening pan) [
      | inl there ↦ inl (into there)
      | inr none ↦ inr (prefix_of pan, refl, none)
    ]

own_account : (opening rows : Rows) → IsFollowing opening rows → (pan : Pan) (card : CardRow) (id : AccountId) → card_in (map.get rows (RowKey.Card pan)) ≡ Some card → IsIn (RowKey.Account id) (account_keys (Some card)) → IsIn (RowKey.Account id) (funds_at opening pan)
own_account opening rows h pan card id stands own =
    in_front (RowKey.Account id) (accounts_at opening pan) (budget_at opening pan)
    (subst (IsIn (RowKey.Account id)) (h.cards pan) (subst (λ (c : Option CardRow). IsIn (RowKey.Account id) (account_keys c)) (sym stands) own))

-- a request
refused_looks : (opening : Rows) (look : Lookup) (frame : Frame) (r : Request) (refused : Option ℕ) (next : Plan) → LooksOwn opening look frame next → LooksOwn opening look frame (unless_refused r refused next)
refused_looks opening look frame r (Some action) next h = tt
refused_looks opening look frame r None next h = h

on_funds_looks : (opening : Rows) (look : Lookup) (frame : Frame) (r : Request) (card : CardRow) (day : VelocityRow) (found : Result Funds ℕ) → LooksOwn opening look frame (on_funds r card day found)
on_funds_looks opening look frame r card day (Ok paying) = tt
on_funds_looks opening look frame r card day (Err action) = tt

on_account_looks : (opening : Rows) (look : Lookup) (r : Request) (card : CardRow) (id : AccountId) (account : Option AccountRow) → LooksOwn opening look (Frame.Good (Message.Request r)) (on_account r card id account)
on_account_looks opening look r card id None = tt
on_account_looks opening look r card id (Some account) =
    either_looks opening look (request_frame r) (is_same_currency r.transaction.currency account.currency) _ (declined_request r 100)
    (λ same. (
      inl (inl refl),
      refused_looks opening look (request_frame r) r (refused_by_limits r card (spent_in (velocity_in (look _)))) _ (
        may_look_budget opening (Frame.Good (Message.Request r)) r.transaction.pan (λ there. inr (inr (inr there))),
        on_funds_looks opening look (request_frame r) r card _ (request_funds r.transaction id account (budget_in (look _))),
      ),
    ))
    (λ other. tt)

on_usable_looks : (opening rows : Rows) → IsFollowing opening rows → (r : Request) (card : CardRow) (usable : Result AccountId ℕ) → card_in (map.get rows (RowKey.Card r.transaction.pan)) ≡ Some card → usable_account r card ≡ usable → LooksOwn opening (map.get rows) (Frame.Good (Message.Request r)) (on_usable r card usable)
on_usable_looks opening rows h r card (Err action) stands e = tt
on_usable_looks opening rows h r card (Ok id) stands e = (
  inl (inr (inr (inr (own_account opening rows h r.transaction.pan card id stands (request.usable_own r card id e))))),
  on_account_looks opening (map.get rows) r card id (account_in (map.get rows _)),
)

on_card_looks : (opening rows : Rows) → IsFollowing opening rows → (r : Request) (card : Option CardRow) → card_in (map.get rows (RowKey.Card r.transaction.pan)) ≡ card → LooksOwn opening (map.get rows) (Frame.Good (Message.Request r)) (on_card r card)
on_card_looks opening rows h r None e = tt
on_card_looks opening rows h r (Some card) e = on_usable_looks opening rows h r card (usable_account r card) e refl

request_looks : (opening rows : Rows) → IsFollowing opening rows → (r : Request) (row : Option OriginalRow) → LooksOwn opening (map.get rows) (Frame.Good (Message.Request r)) (on_original r row)
request_looks opening rows h r None =
    refused_looks opening (map.get rows) (request_frame r) r (refused_unseen r) _ (inl (inr (inr (inl refl))), on_card_looks opening rows h r (card_in (map.get rows _)) refl)
request_looks opening rows h r (Some (OriginalRow.Ahead mark)) = either_looks opening (map.get rows) (request_frame r) (is_marked mark r.transaction OriginalKind.Request) _ _ (λ a. tt) (λ a. tt)
request_looks opening rows h r (Some (OriginalRow.Kept k)) = either_looks opening (map.get rows) (request_frame r) (r.repeat && is_of_same k r.transaction OriginalKind.Request) _ _ (λ a. tt) (λ a. tt)

-- an advice
advice_funds_looks : (opening : Rows) (look : Lookup) (frame : Frame) (a : Advice) (found : Option Funds) → LooksOwn opening look frame (advice_on_funds a found)
advice_funds_looks opening look frame a None = tt
advice_funds_looks opening look frame a (Some paying) = tt

advice_account_looks : (opening : Rows) (look : Lookup) (a : Advice) (id : AccountId) (account : Option AccountRow) → LooksOwn opening look (Frame.Good (Message.Advice a)) (advice_on_account a id account)
advice_account_looks opening look a id None = tt
advice_account_looks opening look a id (Some account) =
    either_looks opening look (advice_frame a) (is_same_currency a.transaction.currency account.currency) _ (acknowledged a)
    (λ same. (may_look_budget opening (Frame.Good (Message.Advice a)) a.transaction.pan (λ there. inr (inr there)), advice_funds_looks opening look (advice_frame a) a (advice_funds a.transaction id account (budget_in (look _)))))
    (λ other. tt)

advice_named_looks : (opening rows : Rows) → IsFollowing opening rows → (a : Advice) (card : CardRow) (named : Option AccountId) → card_in (map.get rows (RowKey.Card a.transaction.pan)) ≡ Some card → account_of card.accounts a.account ≡ named → LooksOwn opening (map.get rows) (Frame.Good (Message.Advice a)) (advice_on_named a named)
advice_named_looks opening rows h a card None stands e = tt
advice_named_looks opening rows h a card (Some id) stands e = (
  inl (inr (inr (own_account opening rows h a.transaction.pan card id stands (account_own card a.account id e)))),
  advice_account_looks opening (map.get rows) a id (account_in (map.get rows _)),
)

advice_card_looks : (opening rows : Rows) → IsFollowing opening rows → (a : Advice) (card : Option CardRow) → card_in (map.get rows (RowKey.Card a.transaction.pan)) ≡ card → LooksOwn opening (map.get rows) (Frame.Good (Message.Advice a)) (advice_on_card a card)
advice_card_looks opening rows h a None e = tt
advice_card_looks opening rows h a (Some card) e = advice_named_looks opening rows h a card (account_of card.accounts a.account) e refl

advice_looks : (opening rows : Rows) → IsFollowing opening rows → (a : Advice) (row : Option OriginalRow) → LooksOwn opening (map.get rows) (Frame.Good (Message.Advice a)) (advice_on_original a row)
advice_looks opening rows h a None =
    either_looks opening (map.get rows) (advice_frame a) (a.action == 0) _ (acknowledged a)
    (λ approved. (inl (inr (inl refl)), advice_card_looks opening rows h a (card_in (map.get rows _)) refl)) (λ other. tt)
advice_looks opening rows h a (Some (OriginalRow.Ahead mark)) = either_looks opening (map.get rows) (advice_frame a) (is_marked mark a.transaction OriginalKind.Advice) _ _ (λ b. tt) (λ b. tt)
advice_looks opening rows h a (Some (OriginalRow.Kept k)) = either_looks opening (map.get rows) (advice_frame a) (a.repeat && is_of_same k a.transaction OriginalKind.Advice) _ _ (λ b. tt) (λ b. tt)

-- a reversal
advice_back_looks : (opening : Rows) (look : Lookup) (v : Reversal) (k : KeptOriginal) (paid : Funds) → LooksOwn opening look (Frame.Good (Message.Reversal v)) (reversed_advice v k paid)
advice_back_looks opening look v k paid = either_looks opening look (reversal_frame v) (is_overfull v k paid) _ _ (λ full. tt) (λ room. tt)

day_looks : (opening : Rows) (look : Lookup) (v : Reversal) (k : KeptOriginal) (paid : Funds) (day : Option VelocityRow) → LooksOwn opening look (Frame.Good (Message.Reversal v)) (on_original_day v k paid day)
day_looks opening look v k paid None = tt
day_looks opening look v k paid (Some day) =
    either_looks opening look (reversal_frame v) (is_overfull v k paid) _ _ (λ full. tt) (λ room. either_looks opening look (reversal_frame v) (day_is_short v k day) _ _ (λ short. tt) (λ enough. tt))

kind_looks : (opening : Rows) (look : Lookup) (v : Reversal) (k : KeptOriginal) → is_named v k ≡ true → (o : OriginalKind) (paid : Funds) → LooksOwn opening look (Frame.Good (Message.Reversal v)) (by_kind o v k paid)
kind_looks opening look v k named OriginalKind.Request paid = (inl (day_needed opening v k named), day_looks opening look v k paid (velocity_in (look _)))
kind_looks opening look v k named OriginalKind.Advice paid = advice_back_looks opening look v k paid

paid_looks : (opening : Rows) (look : Lookup) (v : Reversal) (k : KeptOriginal) → is_named v k ≡ true → (paid : Option Funds) → LooksOwn opening look (Frame.Good (Message.Reversal v)) (on_paid v k paid)
paid_looks opening look v k named None = tt
paid_looks opening look v k named (Some paid) = kind_looks opening look v k named (kind_of_outcome k.outcome) paid

payer_looks : (opening rows : Rows) → IsFollowing opening rows → (v : Reversal) (k : KeptOriginal) (payment : Payment) (p : Payer) → Names v (map.get rows) k None → payment_of_outcome k.outcome ≡ Some payment → payment.payer ≡ p → LooksOwn opening (map.get rows) (Frame.Good (Message.Reversal v)) (by_payer v k p)
payer_looks opening rows h v k payment (Payer.Account id) names posted payer =
    (inl (inr (inr (payer_needed opening rows h v k payment id names posted payer))), paid_looks opening (map.get rows) v k names.named _)
payer_looks opening rows h v k payment Payer.Budget names posted payer = (
  subst (λ (p : Pan). MayLook opening (Frame.Good (Message.Reversal v)) (RowKey.Budget (prefix_of p))) (sym (same_card v k names.named))
      (may_look_budget opening (Frame.Good (Message.Reversal v)) v.transaction.pan (λ there. inr (inr (in_back (RowKey.Budget (prefix_of v.transaction.pan)) (payer_at opening v.original.identity) (funds_at opening v.transaction.pan) there)))),
  paid_looks opening (map.get rows) v k names.named _,
)

payment_looks : (opening rows : Rows) → IsFollowing opening rows → (v : Reversal) (k : KeptOriginal) (payment : Option Payment) → Names v (map.get rows) k None → payment_of_outcome k.outcome ≡ payment → LooksOwn opening (map.get rows) (Frame.Good (Message.Reversal v)) (on_payment v k payment)
payment_looks opening rows h v k None names e = tt
payment_looks opening rows h v k (Some payment) names e =
    either_looks opening (map.get rows) (reversal_frame v) (is_wrong_part v.scope v.transaction.amount k.amount) _ _ (λ wrong. tt) (λ right. payer_looks opening rows h v k payment payment.payer names e refl)

by_reversal_looks : (opening rows : Rows) → IsFollowing opening rows → (v : Reversal) (k : KeptOriginal) (by : Option Identity) → Names v (map.get rows) k by → LooksOwn opening (map.get rows) (Frame.Good (Message.Reversal v)) (on_reversal v k by)
by_reversal_looks opening rows h v k (Some by) names = either_looks opening (map.get rows) (reversal_frame v) (v.repeat && is_same_identity by (identity_of v.transaction)) _ _ (λ a. tt) (λ a. tt)
by_reversal_looks opening rows h v k None names = payment_looks opening rows h v k (payment_of_outcome k.outcome) names refl

reversal_looks : (opening rows : Rows) → IsFollowing opening rows → (v : Reversal) (row : Option OriginalRow) → original_in (map.get rows (RowKey.Original v.original.identity)) ≡ row → LooksOwn opening (map.get rows) (Frame.Good (Message.Reversal v)) (on_reversed v row)
reversal_looks opening rows h v None e = tt
reversal_looks opening rows h v (Some (OriginalRow.Ahead mark)) e = tt
reversal_looks opening rows h v (Some (OriginalRow.Kept k)) e =
    either_looks opening (map.get rows) (reversal_frame v) (is_named v k) _ _
    (λ named. by_reversal_looks opening rows h v k (reversal_of_outcome k.outcome) (record { stands = e; named = named; reversal = refl })) (λ other. tt)

-- what a message looks at may be needed, or is the budget of a prefix that has none
pub looked_needed : (opening rows : Rows) → IsFollowing opening rows → (frame : Frame) → AllByRecursion (MayLook opening frame) (decision (map.get rows) frame).needs
unfolding decision
looked_needed opening rows h (Frame.Good (Message.Request r)) = (inl (inr (inl refl)), request_looks opening rows h r _)
looked_needed opening rows h (Frame.Good (Message.Advice a)) = (inl (inl refl), advice_looks opening rows h a _)
looked_needed opening rows h (Frame.Good (Message.Reversal v)) = (inl (inl refl), reversal_looks opening rows h v _ refl)
looked_needed opening rows h (Frame.Bad fault) = tt
