-- A card's row changes in its approvals alone, which rise, and no day passes its card's limits.
use Rattle.std.proofs.Common.{◌≡◌, ℕ, ◌+◌, ◌≤◌, Bool, true, false, if◌then◌else◌, nat_lt, nat_le, not, ◌==◌, ◌&&◌, List, [], ◌∷◌, ◌++◌, Option, Some, None, IsTrue, ◌⊎◌, inl, inr, refl, sym, ap, ◌∙◌, subst, arith}
use Rattle.std.proofs.lemmas.Bool.Decides.{nat_tests}
use Rattle.std.specs.FinMap as map
use Rattle.iso8583.proofs.NumberLaws.{number_of-fixed_digits}
use Rattle.issuer_words.specs.Words.{Advice, Approval, CardRow, Frame, Funds, Lookup, Message, OriginalKind, OriginalRow, Pan, Plan, ReplyBody, Request, Reversal, ReversalScope, RowKey, RowVal, Rows, VelocityRow, Verdict, Writes, advice_on_original, approval_code, approved_card, card_in, carried_out, count_left, day_of, decision, fixed_digits, is_marked, is_of_same, key_of_funds, kind_of, number_of, on_original, overlay, refunded, refused_by_limits, reply_to_request, reversal_plan, reversed_original, rows_after, rows_after_one, spent_in, spent_less, spent_more, velocity_in, writes_of}
use Rattle.iso8583.specs.declared.answer.Answer.{Answer}
use Rattle.issuer_rows.proofs.PutsOnce.{IsFresh}
use Rattle.issuer_laws.proofs.AdviceWays as advice
use Rattle.issuer_laws.proofs.Keys.{get-fresh}
use Rattle.issuer_laws.proofs.RequestWays as request
use Rattle.issuer_laws.proofs.ReversalWays.{SettlesPosted, IsDayFound, day_put, reversal_ways}
use Rattle.issuer_laws.proofs.Repeated.{request_unseen}
use Rattle.issuer_laws.proofs.Undone.{was_approved}
use Rattle.issuer_laws.proofs.Written.{WritesOne, value_behind, value_there}
use Rattle.issuer_laws.specs.Cards.{IsCardAt, IsSameCard, StaysCard, IsWithin, IsWithinLimits, LeavesDayWithin, IsApprovedWith, CodesDiffer}
use Rattle.issuer_laws.specs.Messages.{request_frame, HasAction}
use Rattle.issuer_laws.specs.Undone.{spent_on}

-- what is written of cards: nothing, or that one that is there has one approval more
record WritesCard (look : Lookup) (ws : Writes) : Type 0 where
  pan : Pan
  card : CardRow
  stands : card_in (look (RowKey.Card pan)) ≡ Some card
  one : WritesOne 0 ws (RowKey.Card pan) (RowVal.Card (approved_card card))

-- a day within its card's limits; or a day of which less was spent than before
record IsApprovedDay (look : Lookup) (pan : Pan) (row : VelocityRow) : Type 0 where
  card : CardRow
  stands : card_in (look (RowKey.Card pan)) ≡ Some card
  within : IsWithin card row

record IsLesserDay (look : Lookup) (pan : Pan) (day : List ℕ) (row : VelocityRow) : Type 0 where
  before : VelocityRow
  stands : velocity_in (look (RowKey.Velocity pan day)) ≡ Some before
  count : row.count ≤ before.count
  sum : row.sum ≤ before.sum

-- what is written of days: nothing, or one
record WritesDay (look : Lookup) (ws : Writes) : Type 0 where
  pan : Pan
  day : List ℕ
  row : VelocityRow
  one : WritesOne 1 ws (RowKey.Velocity pan day) (RowVal.Velocity row)
  change : IsApprovedDay look pan row ⊎ IsLesserDay look pan day row

-- both
record ChangesCards (look : Lookup) (ws : Writes) : Type 0 where
  cards : IsFresh 0 ws ⊎ WritesCard look ws
  days : IsFresh 1 ws ⊎ WritesDay look ws

-- neither
leaves : (look : Lookup) (ws writes : Writes) → writes ≡ ws → IsFresh 0 ws → IsFresh 1 ws → ChangesCards look writes
leaves look ws writes e cards days = subst (ChangesCards look) (sym e) (record { cards = inl cards; days = inl days })

pub leaves_two : (f : Funds) → IsTrue (not (0 == kind_of (key_of_funds f))) × IsTrue (not (1 == kind_of (key_of_funds f)))
leaves_two (Funds.Account id row) = (refl, refl)
leaves_two (Funds.Budget prefix row) = (refl, refl)

either : (look : Lookup) (b : Bool) (p q : Plan) → ChangesCards look (carried_out p look).writes → ChangesCards look (carried_out q look).writes → ChangesCards look (carried_out (if b then p else q) look).writes
either look true p q x y = x
either look false p q x y = y

-- what the three tests of a card's limits refuse
abbrev refused_if : Bool → Bool → Bool → Option ℕ
refused_if count sum approvals = if count then Some 123 else (if sum then Some 121 else (if approvals then Some 909 else None))

none_over : (count sum approvals : Bool) → refused_if count sum approvals ≡ None → (count ≡ false) × (sum ≡ false) × (approvals ≡ false)
none_over true sum approvals e = absurd (cc)
none_over false true approvals e = absurd (cc)
none_over false false true e = absurd (cc)
none_over false false false e = (refl, refl, refl)

not_over : (limit n : ℕ) → nat_lt limit n ≡ false → n ≤ limit
not_over limit n e = grind (arith, nat_tests)

-- where the limits refuse nothing, the day is within them with this approval
within_limits : (r : Request) (card : CardRow) (day : VelocityRow) → refused_by_limits r card day ≡ None → IsWithin card (spent_more day r.transaction.amount)
within_limits r card day e =
    let neither = none_over (nat_lt card.day_count (day.count + 1)) (nat_lt card.day_amount (day.sum + r.transaction.amount)) (nat_le 999999 card.approvals) e in
    record { count = not_over card.day_count (day.count + 1) neither.0; sum = not_over card.day_amount (day.sum + r.transaction.amount) neither.1 }

-- the rows of an approved request's card and day
approved_card_row : (look : Lookup) (r : Request) (reply : ReplyBody) (writes : Writes) (a : request.Approves r look reply writes) → WritesOne 0 writes (RowKey.Card r.transaction.pan) (RowVal.Card (approved_card a.card))
approved_card_row look r reply writes a = record {
  front = _ ∷ [];
  rest = _ ∷ _ ∷ [];
  all = a.writes;
  fresh_front = (refl, tt);
  fresh_rest = (refl, ((leaves_two a.paying).0, tt));
}

pub approved_day_row : (look : Lookup) (r : Request) (reply : ReplyBody) (writes : Writes) (a : request.Approves r look reply writes) → WritesOne 1 writes (RowKey.Velocity r.transaction.pan (day_of r.transaction.stamp)) (RowVal.Velocity (spent_more (request.spent_by r look) r.transaction.amount))
approved_day_row look r reply writes a = record {
  front = _ ∷ _ ∷ [];
  rest = _ ∷ [];
  all = a.writes;
  fresh_front = (refl, (refl, tt));
  fresh_rest = ((leaves_two a.paying).1, tt);
}

approved_changes : (look : Lookup) (r : Request) (reply : ReplyBody) (writes : Writes) → request.Approves r look reply writes → ChangesCards look writes
approved_changes look r reply writes a = record {
  cards = inr (record { pan = r.transaction.pan; card = a.card; stands = a.stands; one = approved_card_row look r reply writes a });
  days = inr (record {
    pan = r.transaction.pan;
    day = day_of r.transaction.stamp;
    row = spent_more (request.spent_by r look) r.transaction.amount;
    one = approved_day_row look r reply writes a;
    change = inl (record { card = a.card; stands = a.stands; within = within_limits r a.card (request.spent_by r look) a.within });
  });
}

request_changes : (look : Lookup) (r : Request) (row : Option OriginalRow) → ChangesCards look (carried_out (on_original r row) look).writes
request_changes look r None =
    elim (request.fresh_ways r look) [
      | inl d ↦ leaves look _ _ d.writes (refl, tt) (refl, tt)
      | inr a ↦ approved_changes look r _ _ a
    ]
request_changes look r (Some (OriginalRow.Ahead mark)) =
    either look (is_marked mark r.transaction OriginalKind.Request) _ _ (leaves look _ _ refl (refl, tt) (refl, tt)) (leaves look [] _ refl tt tt)
request_changes look r (Some (OriginalRow.Kept k)) =
    either look (r.repeat && is_of_same k r.transaction OriginalKind.Request) _ _ (leaves look [] _ refl tt tt) (leaves look [] _ refl tt tt)

advice_changes : (look : Lookup) (a : Advice) (row : Option OriginalRow) → ChangesCards look (carried_out (advice_on_original a row) look).writes
advice_changes look a None =
    elim (advice.fresh_ways a look) [
      | inl d ↦ leaves look _ _ d.writes (refl, tt) (refl, tt)
      | inr w ↦ leaves look _ _ w.writes (refl, ((leaves_two w.paying).0, tt)) (refl, ((leaves_two w.paying).1, tt))
    ]
advice_changes look a (Some (OriginalRow.Ahead mark)) =
    either look (is_marked mark a.transaction OriginalKind.Advice) _ _ (leaves look _ _ refl (refl, tt) (refl, tt)) (leaves look [] _ refl tt tt)
advice_changes look a (Some (OriginalRow.Kept k)) =
    either look (a.repeat && is_of_same k a.transaction OriginalKind.Advice) _ _ (leaves look [] _ refl tt tt) (leaves look [] _ refl tt tt)

less_count : (s : ReversalScope) (n : ℕ) → count_left s n ≤ n
less_count ReversalScope.Full n = omega arith
less_count (ReversalScope.Partial amount) n = omega arith

posted_changes : (look : Lookup) (v : Reversal) (reply : ReplyBody) (writes : Writes) (s : SettlesPosted v look reply writes) (day : Option VelocityRow) → s.day ≡ day → ChangesCards look writes
posted_changes look v reply writes s None e =
    leaves look _ _ (s.writes ∙ ap (λ (d : Option VelocityRow). reversed_original v s.kept ∷ (day_put v s.kept d ++ refunded v s.kept s.paid ∷ [])) e)
    (refl, ((leaves_two s.paid).0, tt)) (refl, ((leaves_two s.paid).1, tt))
posted_changes look v reply writes s (Some day) e =
    let all = s.writes ∙ ap (λ (d : Option VelocityRow). reversed_original v s.kept ∷ (day_put v s.kept d ++ refunded v s.kept s.paid ∷ [])) e in
    let found = subst (IsDayFound v look s.kept) e s.day_found in
    record {
      cards = inl (subst (IsFresh 0) (sym all) (refl, (refl, ((leaves_two s.paid).0, tt))));
      days = inr (record {
        pan = s.kept.card;
        day = day_of v.original.identity.stamp;
        row = spent_less v s.kept day;
        one = record { front = _ ∷ []; rest = _ ∷ []; all = all; fresh_front = (refl, tt); fresh_rest = ((leaves_two s.paid).1, tt) };
        change = inr (record { before = day; stands = found.stands; count = less_count v.scope day.count; sum = omega arith });
      });
    }

reversal_changes : (look : Lookup) (v : Reversal) → ChangesCards look (carried_out (reversal_plan v) look).writes
reversal_changes look v =
    elim (reversal_ways v look) [
      | inl w ↦ leaves look [] _ w.writes tt tt
      | inr w1 ↦ elim w1 [
        | inl w ↦ leaves look _ _ w.writes (refl, tt) (refl, tt)
        | inr w2 ↦ elim w2 [
          | inl w ↦ leaves look [] _ w.writes tt tt
          | inr w3 ↦ elim w3 [
            | inl w ↦ leaves look _ _ w.writes (refl, tt) (refl, tt)
            | inr s ↦ posted_changes look v _ _ s s.day refl
          ]
        ]
      ]
    ]

changes : (look : Lookup) (frame : Frame) → ChangesCards look (decision look frame).writes
unfolding decision
changes look (Frame.Good (Message.Request r)) = request_changes look r _
changes look (Frame.Good (Message.Advice a)) = advice_changes look a _
changes look (Frame.Good (Message.Reversal v)) = reversal_changes look v
changes look (Frame.Bad fault) = leaves look [] [] refl tt tt

itself : (card : CardRow) → IsSameCard card card
itself card = record { same = refl; rises = omega arith }

one_more : (card : CardRow) → IsSameCard card (approved_card card)
one_more card = record { same = refl; rises = omega arith }

-- a card that is there, behind the rows that are written
card_after : (rows : Rows) (ws : Writes) (pan : Pan) (card : CardRow) → IsCardAt rows pan card → IsFresh 0 ws ⊎ WritesCard (map.get rows) ws → (later : CardRow) × IsCardAt (overlay rows ws) pan later × IsSameCard card later
card_after rows ws pan card at (inl fresh) = (card, ap card_in (get-fresh rows ws (RowKey.Card pan) fresh) ∙ at, itself card)
card_after rows ws pan card at (inr w) =
    elim (value_behind rows ws (RowKey.Card w.pan) (RowVal.Card (approved_card w.card)) (RowKey.Card pan) refl w.one) [
      | inl own ↦
          let there = ap (λ (q : RowKey). card_in (map.get rows q)) own.0 ∙ w.stands in
          let same : card ≡ w.card = cc in
          (approved_card w.card, ap card_in own.1, subst (λ (c : CardRow). IsSameCard c (approved_card w.card)) (sym same) (one_more w.card))
      | inr other ↦ (card, ap card_in other ∙ at, itself card)
    ]

rises_on : (first second third : CardRow) → IsSameCard first second → IsSameCard second third → IsSameCard first third
rises_on first second third a b = record {
  same = b.same ∙ ap (λ (c : CardRow). record c { approvals = third.approvals }) a.same;
  rises = omega (arith, a.rises, b.rises);
}

-- whatever comes, the card stays
pub stays_card : (frames : List Frame) (rows : Rows) (pan : Pan) (card : CardRow) → StaysCard rows pan card frames
stays_card [] rows pan card at = (card, at, itself card)
stays_card (frame ∷ frames) rows pan card at =
    let next = card_after rows (writes_of rows frame) pan card at (changes (map.get rows) frame).cards in
    let last = stays_card frames (rows_after_one rows frame) pan next.0 next.1 in
    (last.0, last.1, rises_on card next.0 last.0 next.2 last.2)

-- a card that is there behind the rows that are written was there before
card_before : (rows : Rows) (ws : Writes) (pan : Pan) (later : CardRow) → IsCardAt (overlay rows ws) pan later → IsFresh 0 ws ⊎ WritesCard (map.get rows) ws → (card : CardRow) × IsCardAt rows pan card × IsSameCard card later
card_before rows ws pan later at (inl fresh) = (later, sym (ap card_in (get-fresh rows ws (RowKey.Card pan) fresh)) ∙ at, itself later)
card_before rows ws pan later at (inr w) =
    elim (value_behind rows ws (RowKey.Card w.pan) (RowVal.Card (approved_card w.card)) (RowKey.Card pan) refl w.one) [
      | inl own ↦
          let there = ap (λ (q : RowKey). card_in (map.get rows q)) own.0 ∙ w.stands in
          let written = ap card_in own.1 in
          let same : later ≡ approved_card w.card = cc in
          (w.card, there, subst (IsSameCard w.card) (sym same) (one_more w.card))
      | inr other ↦ (later, sym (ap card_in other) ∙ at, itself later)
    ]

-- limits that a card allows, its row behind an approval allows too
allows : (card later : CardRow) (spent : VelocityRow) → IsSameCard card later → IsWithin card spent → IsWithin later spent
allows card later spent s h = subst (λ (c : CardRow). IsWithin c spent) (sym s.same) (record { count = h.count; sum = h.sum })

-- the day of a card behind the rows that are written
day_after : (rows : Rows) (ws : Writes) (pan : Pan) (day : List ℕ) (card : CardRow) → IsCardAt rows pan card → IsWithin card (spent_on rows pan day) → IsFresh 1 ws ⊎ WritesDay (map.get rows) ws → IsWithin card (spent_on (overlay rows ws) pan day)
day_after rows ws pan day card at h (inl fresh) =
    subst (IsWithin card) (sym (ap (λ (o : Option RowVal). spent_in (velocity_in o)) (get-fresh rows ws (RowKey.Velocity pan day) fresh))) h
day_after rows ws pan day card at h (inr w) =
    elim (value_behind rows ws (RowKey.Velocity w.pan w.day) (RowVal.Velocity w.row) (RowKey.Velocity pan day) refl w.one) [
      | inl own ↦ subst (IsWithin card) (sym (ap (λ (o : Option RowVal). spent_in (velocity_in o)) own.1)) (changed_within rows w pan day card own.0 at h w.change)
      | inr other ↦ subst (IsWithin card) (sym (ap (λ (o : Option RowVal). spent_in (velocity_in o)) other)) h
    ]
  where
    changed_within : (rows : Rows) (w : WritesDay (map.get rows) ws) (pan : Pan) (day : List ℕ) (card : CardRow) → RowKey.Velocity pan day ≡ RowKey.Velocity w.pan w.day → IsCardAt rows pan card → IsWithin card (spent_on rows pan day) → IsApprovedDay (map.get rows) w.pan w.row ⊎ IsLesserDay (map.get rows) w.pan w.day w.row → IsWithin card w.row
    changed_within rows w pan day card own at h (inl approved) =
        let one : pan ≡ w.pan = cc in
        let there = ap (λ (p : Pan). card_in (map.get rows (RowKey.Card p))) one ∙ approved.stands in
        let same : card ≡ approved.card = cc in
        subst (λ (c : CardRow). IsWithin c w.row) (sym same) approved.within
    changed_within rows w pan day card own at h (inr lesser) =
        let there = ap (λ (q : RowKey). spent_in (velocity_in (map.get rows q))) own ∙ ap spent_in lesser.stands in
        let before = subst (IsWithin card) there h in
        record { count = omega (arith, before.count, lesser.count); sum = omega (arith, before.sum, lesser.sum) }

within_after_one : (rows : Rows) (frame : Frame) → IsWithinLimits rows → IsWithinLimits (rows_after_one rows frame)
within_after_one rows frame h pan day later at =
    let c = changes (map.get rows) frame in
    let was = card_before rows (writes_of rows frame) pan later at c.cards in
    allows was.0 later _ was.2 (day_after rows (writes_of rows frame) pan day was.0 was.1 (h pan day was.0 was.1) c.days)

-- no day passes its card's limits
pub stays_within : (frames : List Frame) (rows : Rows) → IsWithinLimits rows → IsWithinLimits (rows_after rows frames)
stays_within [] rows h = h
stays_within (frame ∷ frames) rows h = stays_within frames (rows_after_one rows frame) (within_after_one rows frame h)

-- the rows that an approved request leaves of its card and its day
pub leaves_day_within : (rows : Rows) (r : Request) → LeavesDayWithin rows r
leaves_day_within rows r first =
    let a = was_approved r (map.get rows) _ _ (request_unseen r (map.get rows) first.0) first.1 in
    let spent = spent_more (request.spent_by r (map.get rows)) r.transaction.amount in
    let card_there = value_there rows _ (RowKey.Card r.transaction.pan) (RowVal.Card (approved_card a.card)) (approved_card_row (map.get rows) r _ _ a) in
    let day_there = value_there rows _ (RowKey.Velocity r.transaction.pan (day_of r.transaction.stamp)) (RowVal.Velocity spent) (approved_day_row (map.get rows) r _ _ a) in (
      approved_card a.card,
      ap card_in card_there,
      subst (IsWithin (approved_card a.card)) (sym (ap (λ (o : Option RowVal). spent_in (velocity_in o)) day_there))
          (allows a.card (approved_card a.card) spent (one_more a.card) (within_limits r a.card (request.spent_by r (map.get rows)) a.within)),
    )

-- the approval code of a reply, if it has one
code_in_answer : Answer → Option Approval
code_in_answer (Answer.Request (Verdict.Approved code) account) = Some code
code_in_answer (Answer.Request (Verdict.Declined action) account) = None
code_in_answer (Answer.Advice action account) = None
code_in_answer (Answer.Reversal action) = None

code_in : ReplyBody → Option Approval
code_in (ReplyBody.Reply reply) = code_in_answer reply.answer
code_in (ReplyBody.Fault fault) = None

-- what an approval with a code says: the card's approvals, below their greatest, and one more of them as the code
record HasApproved (rows : Rows) (r : Request) (code : Approval) : Type 0 where
  card : CardRow
  stands : IsCardAt rows r.transaction.pan card
  after : IsCardAt (rows_after_one rows (request_frame r)) r.transaction.pan (approved_card card)
  room : card.approvals + 1 ≤ 999999
  code_is : code ≡ approval_code card

below_greatest : (n : ℕ) → nat_le 999999 n ≡ false → n + 1 ≤ 999999
below_greatest n e = grind (arith, nat_tests)

same_code : (r : Request) (a b : Approval) (reply : ReplyBody) → reply ≡ reply_to_request r (Verdict.Approved a) → reply ≡ reply_to_request r (Verdict.Approved b) → a ≡ b
unfolding code_in code_in_answer
same_code r a b reply e f = let both : ◌≡◌ {A = Option Approval} (Some a) (Some b) = sym (ap code_in e) ∙ ap code_in f in cc

has_approved : (rows : Rows) (r : Request) (code : Approval) → IsApprovedWith rows r code → HasApproved rows r code
has_approved rows r code h =
    let a = was_approved r (map.get rows) _ _ (request_unseen r (map.get rows) h.0) (subst (HasAction 0) (sym h.1) refl) in
    record {
      card = a.card;
      stands = a.stands;
      after = ap card_in (value_there rows _ (RowKey.Card r.transaction.pan) (RowVal.Card (approved_card a.card)) (approved_card_row (map.get rows) r _ _ a));
      room = below_greatest a.card.approvals ((none_over _ _ (nat_le 999999 a.card.approvals) a.within).2);
      code_is = same_code r code (approval_code a.card) _ h.1 a.reply;
    }

other_number : (m n : ℕ) → m + 1 ≤ n → n + 1 ≤ 999999 → fixed_digits 6 (m + 1) ≡ fixed_digits 6 (n + 1) → ⊥
other_number m n more room e =
    let first = number_of-fixed_digits 6 (m + 1) (omega arith) in
    let second = number_of-fixed_digits 6 (n + 1) (omega arith) in
    let same = ap number_of e in
    omega (arith, first, second, same)

-- codes of one card differ
pub codes_differ : (rows : Rows) (first : Request) (between : List Frame) (second : Request) → CodesDiffer rows first between second
codes_differ rows first between second card a b h k same =
    let one = has_approved rows first a h in
    let two = has_approved (rows_after (rows_after_one rows (request_frame first)) between) second b k in
    let later = stays_card between (rows_after_one rows (request_frame first)) first.transaction.pan (approved_card one.card) one.after in
    let there = ap (λ (p : Pan). card_in (map.get (rows_after (rows_after_one rows (request_frame first)) between) (RowKey.Card p))) card ∙ later.1 in
    let stood = two.stands in
    let row : two.card ≡ later.0 = cc in
    let rises : one.card.approvals + 1 ≤ two.card.approvals = subst (λ (c : CardRow). one.card.approvals + 1 ≤ c.approvals) (sym row) later.2.rises in
    other_number one.card.approvals two.card.approvals rises two.room (ap (λ (c : Approval). c.0) (sym one.code_is ∙ same ∙ two.code_is))
