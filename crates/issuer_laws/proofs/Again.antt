-- A batch that is sent once more writes nothing, where none of its reversals may be done later.
use Rattle.std.proofs.Common.{◌≡◌, Bool, true, false, if◌then◌else◌, ◌&&◌, not, List, [], ◌∷◌, ◌++◌, map, Option, Some, None, is_some, is_none, ◌⊎◌, inl, inr, refl, sym, ap, ◌∙◌, subst}
use Rattle.std.proofs.lemmas.Bool.{false≢true, and_left}
use Rattle.std.specs.FinMap as finite
use Rattle.std.specs.List.{AllByRecursion}
use Rattle.issuer_words.specs.Words.{Advice, Frame, Funds, Identity, KeptOriginal, Lookup, Message, OriginalKind, OriginalRow, Payment, Plan, ReplyBody, Request, Reversal, RowKey, RowVal, Rows, Transaction, VelocityRow, Writes, advice_on_original, answered_unkept, by_payer, carried_out, decision, declined_unkept, identity_of, is_marked, is_named, is_of_same, is_same_identity, is_wrong_part, kind_of_outcome, marked_advice, marked_request, on_original, on_payment, on_reversal, on_reversed, original_in, overlay, payment_of_outcome, reply_of, reversal_of_outcome, rows_after, rows_after_one, unchanged, writes_of}
use Rattle.issuer_laws.proofs.AdviceWays as advice
use Rattle.issuer_laws.proofs.Duplicate.{was_reversed}
use Rattle.issuer_laws.proofs.Keys.{get-other, get-fresh, same_or_other, funds_other, original_stands}
use Rattle.issuer_laws.proofs.Permanent.{PutsOriginal, Succeeds, has_reversal, puts_original, kept_after_writes}
use Rattle.issuer_laws.proofs.RequestWays as request
use Rattle.issuer_laws.proofs.ReversalRules.{reversal_decided}
use Rattle.issuer_laws.proofs.ReversalWays.{reversal_ways}
use Rattle.issuer_laws.specs.Again.{again, repeat_of_reversal, IsNoReversal, is_for_now, NoneForNow, RequestsWriteNothingAgain, ReversalsWriteNothingAgain}
use Rattle.issuer_laws.specs.Messages.{request_frame, advice_frame, reversal_frame, HasAction}
use Rattle.issuer_laws.specs.Permanent.{Continues}
use Rattle.issuer_laws.specs.Repeated.{repeat_of_request, repeat_of_advice}
use Rattle.issuer_laws.specs.Rules.{Conditions, first_of, has, comes_to, facts_of, request_conditions, advice_conditions, is_mark, is_kept_so, is_reversed_by, ReversalFacts, reversal_facts_of, EndsGivenBack, ReversalEnds, decided_by}
use Rattle.issuer_laws.specs.declared.decision_rule.DecisionRule.{DecisionRule}

-- a row at which a message writes nothing: what is kept, or the mark of another message's reversal
abbrev IsDone : Transaction → OriginalKind → Option OriginalRow → Type 0
IsDone t k None = ⊥
IsDone t k (Some (OriginalRow.Ahead mark)) = is_marked mark t k ≡ false
IsDone t k (Some (OriginalRow.Kept kept)) = Unit {0}

abbrev row_of : Rows → Transaction → Option OriginalRow
row_of rows t = original_in (finite.get rows (RowKey.Original (identity_of t)))

-- it stays one, whatever is written
stays_done : (rows : Rows) (frame : Frame) (t : Transaction) (k : OriginalKind) (row : Option OriginalRow) → row_of rows t ≡ row → IsDone t k row → IsDone t k (row_of (rows_after_one rows frame) t)
stays_done rows frame t k None e done = absurd done
stays_done rows frame t k (Some (OriginalRow.Kept kept)) e done =
    let after = kept_after_writes rows (writes_of rows frame) (identity_of t) kept e (puts_original (finite.get rows) frame) in
    subst (IsDone t k) (sym after.1) tt
stays_done rows frame t k (Some (OriginalRow.Ahead mark)) e done = behind (puts_original (finite.get rows) frame)
  where
    behind : PutsOriginal (finite.get rows) (writes_of rows frame) → IsDone t k (row_of (rows_after_one rows frame) t)
    behind (inl nothing) = subst (IsDone t k) (sym (ap (λ (w : Writes). original_in (finite.get (overlay rows w) (RowKey.Original (identity_of t)))) nothing ∙ e)) done
    behind (inr p) =
        elim (same_or_other (RowKey.Original (identity_of t)) (RowKey.Original p.0)) [
          | inl same ↦
              let at_its_place = ap (λ (q : RowKey). original_in (finite.get rows q)) (sym same) ∙ e in
              let kept = subst (λ (o : Option OriginalRow). Succeeds o p.1) at_its_place p.5 in
              let there = ap (λ (q : RowKey). original_in (finite.get (overlay rows (writes_of rows frame)) q)) same ∙ original_stands rows p.0 p.1 (writes_of rows frame) p.2 p.3 p.4 ∙ ap (λ (v : RowVal). original_in (Some v)) kept.1 in
              subst (IsDone t k) (sym there) tt
          | inr other ↦
              let there = ap original_in (ap (λ (w : Writes). finite.get (overlay rows w) (RowKey.Original (identity_of t))) p.3 ∙ get-fresh (finite.insert rows (RowKey.Original p.0) p.1) p.2 (RowKey.Original (identity_of t)) p.4 ∙ get-other rows (RowKey.Original p.0) p.1 (RowKey.Original (identity_of t)) other) ∙ e in
              subst (IsDone t k) (sym there) done
        ]

-- a message that was decided
request_done : (rows : Rows) (r : Request) (row : Option OriginalRow) → row_of rows r.transaction ≡ row → IsDone r.transaction OriginalKind.Request (row_of (rows_after_one rows (request_frame r)) r.transaction)
unfolding decision
request_done rows r None e =
    let ways = subst (λ (o : Option OriginalRow). request.IsDecidedFresh r (finite.get rows) (carried_out (on_original r o) (finite.get rows))) (sym e) (request.fresh_ways r (finite.get rows)) in
    elim ways [
      | inl d ↦ subst (IsDone r.transaction OriginalKind.Request) (sym (original_stands rows (identity_of r.transaction) _ _ [] d.writes tt)) tt
      | inr a ↦ subst (IsDone r.transaction OriginalKind.Request) (sym (original_stands rows (identity_of r.transaction) _ _ _ a.writes (refl, (refl, (funds_other a.paying, tt))))) tt
    ]
request_done rows r (Some (OriginalRow.Kept kept)) e = stays_done rows (request_frame r) r.transaction OriginalKind.Request (Some (OriginalRow.Kept kept)) e tt
request_done rows r (Some (OriginalRow.Ahead mark)) e =
    elim (is_marked mark r.transaction OriginalKind.Request) as (λ b. is_marked mark r.transaction OriginalKind.Request ≡ b → IsDone r.transaction OriginalKind.Request (row_of (rows_after_one rows (request_frame r)) r.transaction)) [
      | true ↦ λ own.
          let writes = ap (λ (o : Option OriginalRow). (carried_out (on_original r o) (finite.get rows)).writes) e ∙ ap (λ (b : Bool). (carried_out (if b then marked_request r mark else declined_unkept r 913) (finite.get rows)).writes) own in
          subst (IsDone r.transaction OriginalKind.Request) (sym (original_stands rows (identity_of r.transaction) _ _ [] writes tt)) tt
      | false ↦ λ other. stays_done rows (request_frame r) r.transaction OriginalKind.Request (Some (OriginalRow.Ahead mark)) e other
    ] refl

advice_done : (rows : Rows) (a : Advice) (row : Option OriginalRow) → row_of rows a.transaction ≡ row → IsDone a.transaction OriginalKind.Advice (row_of (rows_after_one rows (advice_frame a)) a.transaction)
unfolding decision
advice_done rows a None e =
    let ways = subst (λ (o : Option OriginalRow). advice.IsTakenFresh a (finite.get rows) (carried_out (advice_on_original a o) (finite.get rows))) (sym e) (advice.fresh_ways a (finite.get rows)) in
    elim ways [
      | inl d ↦ subst (IsDone a.transaction OriginalKind.Advice) (sym (original_stands rows (identity_of a.transaction) _ _ [] d.writes tt)) tt
      | inr w ↦ subst (IsDone a.transaction OriginalKind.Advice) (sym (original_stands rows (identity_of a.transaction) _ _ _ w.writes (funds_other w.paying, tt))) tt
    ]
advice_done rows a (Some (OriginalRow.Kept kept)) e = stays_done rows (advice_frame a) a.transaction OriginalKind.Advice (Some (OriginalRow.Kept kept)) e tt
advice_done rows a (Some (OriginalRow.Ahead mark)) e =
    elim (is_marked mark a.transaction OriginalKind.Advice) as (λ b. is_marked mark a.transaction OriginalKind.Advice ≡ b → IsDone a.transaction OriginalKind.Advice (row_of (rows_after_one rows (advice_frame a)) a.transaction)) [
      | true ↦ λ own.
          let writes = ap (λ (o : Option OriginalRow). (carried_out (advice_on_original a o) (finite.get rows)).writes) e ∙ ap (λ (b : Bool). (carried_out (if b then marked_advice a mark else answered_unkept a 913) (finite.get rows)).writes) own in
          subst (IsDone a.transaction OriginalKind.Advice) (sym (original_stands rows (identity_of a.transaction) _ _ [] writes tt)) tt
      | false ↦ λ other. stays_done rows (advice_frame a) a.transaction OriginalKind.Advice (Some (OriginalRow.Ahead mark)) e other
    ] refl

-- ---- reversals

-- a reversal of this original is refused for good: it is of another card or kind, or is reversed; or the reversal gives back a wrong part
abbrev IsRefusedForGood : Reversal → KeptOriginal → Type 0
IsRefusedForGood v k =
    (is_named v k ≡ false) ⊎ ((by : Identity) × (reversal_of_outcome k.outcome ≡ Some by)) ⊎ ((payment : Payment) × (payment_of_outcome k.outcome ≡ Some payment) × (is_wrong_part v.scope v.transaction.amount k.amount ≡ true))

-- a row at which a reversal writes nothing
abbrev IsOver : Reversal → Option OriginalRow → Type 0
IsOver v None = ⊥
IsOver v (Some (OriginalRow.Ahead mark)) = Unit {0}
IsOver v (Some (OriginalRow.Kept k)) = IsRefusedForGood v k

abbrev original_of : Rows → Reversal → Option OriginalRow
original_of rows v = original_in (finite.get rows (RowKey.Original v.original.identity))

refused_later : (v : Reversal) (k later : KeptOriginal) → Continues k later → IsRefusedForGood v k → IsRefusedForGood v later
refused_later v k later (inl same) h = subst (IsRefusedForGood v) (sym same) h
refused_later v k later (inr once) h = subst (IsRefusedForGood v) (sym once.reversed) (inr (inl (once.by, has_reversal k.outcome once.by once.stay)))

-- it stays one, whatever is written
stays_over : (rows : Rows) (frame : Frame) (v : Reversal) (row : Option OriginalRow) → original_of rows v ≡ row → IsOver v row → IsOver v (original_of (rows_after_one rows frame) v)
stays_over rows frame v None e over = absurd over
stays_over rows frame v (Some (OriginalRow.Kept k)) e over =
    let after = kept_after_writes rows (writes_of rows frame) v.original.identity k e (puts_original (finite.get rows) frame) in
    subst (IsOver v) (sym after.1) (refused_later v k after.0 after.2 over)
stays_over rows frame v (Some (OriginalRow.Ahead mark)) e over = behind (puts_original (finite.get rows) frame)
  where
    behind : PutsOriginal (finite.get rows) (writes_of rows frame) → IsOver v (original_of (rows_after_one rows frame) v)
    behind (inl nothing) = subst (IsOver v) (sym (ap (λ (w : Writes). original_in (finite.get (overlay rows w) (RowKey.Original v.original.identity))) nothing ∙ e)) tt
    behind (inr p) =
        elim (same_or_other (RowKey.Original v.original.identity) (RowKey.Original p.0)) [
          | inl same ↦
              let at_its_place = ap (λ (q : RowKey). original_in (finite.get rows q)) (sym same) ∙ e in
              let kept = subst (λ (o : Option OriginalRow). Succeeds o p.1) at_its_place p.5 in
              let there = ap (λ (q : RowKey). original_in (finite.get (overlay rows (writes_of rows frame)) q)) same ∙ original_stands rows p.0 p.1 (writes_of rows frame) p.2 p.3 p.4 ∙ ap (λ (w : RowVal). original_in (Some w)) kept.1 in
              subst (IsOver v) (sym there) (inr (inl (mark.reversal, kept.2)))
          | inr other ↦
              let there = ap original_in (ap (λ (w : Writes). finite.get (overlay rows w) (RowKey.Original v.original.identity)) p.3 ∙ get-fresh (finite.insert rows (RowKey.Original p.0) p.1) p.2 (RowKey.Original v.original.identity) p.4 ∙ get-other rows (RowKey.Original p.0) p.1 (RowKey.Original v.original.identity) other) ∙ e in
              subst (IsOver v) (sym there) tt
        ]

-- the conditions before those that may change
abbrev pub lasting_conditions : Reversal → ReversalFacts → Conditions
lasting_conditions v f =
    (DecisionRule.NoOriginal, is_none f.seen)
    ∷ (DecisionRule.MarkedBefore, has is_mark f.seen)
    ∷ (DecisionRule.OtherOriginal, has (is_kept_so (λ (k : KeptOriginal). not (is_named v k))) f.seen)
    ∷ (DecisionRule.ReversalRepeat, has (is_kept_so (is_reversed_by v)) f.seen && v.repeat)
    ∷ (DecisionRule.ReversedBefore, has (is_kept_so (λ (k : KeptOriginal). is_some (reversal_of_outcome k.outcome))) f.seen)
    ∷ (DecisionRule.NotPosted, has (is_kept_so (λ (k : KeptOriginal). is_none (payment_of_outcome k.outcome))) f.seen)
    ∷ (DecisionRule.WrongPart, has (is_kept_so (λ (k : KeptOriginal). is_wrong_part v.scope v.transaction.amount k.amount)) f.seen)
    ∷ []

-- those that may change
abbrev pub passing_conditions : Bool → Bool → Bool → Bool → Conditions
passing_conditions payer day balance short =
    (DecisionRule.NoPayer, payer) ∷ (DecisionRule.NoDay, day) ∷ (DecisionRule.BalanceTooGreat, balance) ∷ (DecisionRule.DayTooShort, short) ∷ []

skipped : (front rest : Conditions) (last : DecisionRule) → AllByRecursion (λ c. c.1 ≡ false) front → first_of (front ++ rest) last ≡ first_of rest last
skipped [] rest last h = refl
skipped (c ∷ front) rest last h = ap (λ (b : Bool). if◌then◌else◌ {A = DecisionRule} b c.0 (first_of (front ++ rest) last)) h.0 ∙ skipped front rest last h.1

not_refused : {A : Type 0} → true ≡ false → A
not_refused e = absurd (false≢true (sym e))

none_passing : (payer day balance short : Bool) → is_for_now (first_of (passing_conditions payer day balance short) DecisionRule.GivenBack) ≡ false → first_of (passing_conditions payer day balance short) DecisionRule.GivenBack ≡ DecisionRule.GivenBack
none_passing true day balance short e = not_refused e
none_passing false true balance short e = not_refused e
none_passing false false true short e = not_refused e
none_passing false false false true e = not_refused e
none_passing false false false false e = refl

-- a posted original without a reversal, of the reversal's card and kind, and a part of its amount
record IsRight (rows : Rows) (v : Reversal) (k : KeptOriginal) : Type 0 where
  stands : original_of rows v ≡ Some (OriginalRow.Kept k)
  named : is_named v k ≡ true
  unreversed : reversal_of_outcome k.outcome ≡ None
  payment : Payment
  posted : payment_of_outcome k.outcome ≡ Some payment
  part : is_wrong_part v.scope v.transaction.amount k.amount ≡ false

lasting_fail : (rows : Rows) (v : Reversal) (k : KeptOriginal) → IsRight rows v k → AllByRecursion (λ c. c.1 ≡ false) (lasting_conditions v (reversal_facts_of rows v))
lasting_fail rows v k r = (
  ap is_none r.stands,
  (
    ap (has is_mark) r.stands,
    (
      ap (has (is_kept_so (λ (x : KeptOriginal). not (is_named v x)))) r.stands ∙ ap not r.named,
      (
        and_left _ v.repeat (ap (has (is_kept_so (is_reversed_by v))) r.stands ∙ ap (has (λ (by : Identity). is_same_identity by (identity_of v.transaction))) r.unreversed),
        (
          ap (has (is_kept_so (λ (x : KeptOriginal). is_some (reversal_of_outcome x.outcome)))) r.stands ∙ ap is_some r.unreversed,
          (
            ap (has (is_kept_so (λ (x : KeptOriginal). is_none (payment_of_outcome x.outcome)))) r.stands ∙ ap is_none r.posted,
            (ap (has (is_kept_so (λ (x : KeptOriginal). is_wrong_part v.scope v.transaction.amount x.amount))) r.stands ∙ r.part, tt),
          ),
        ),
      ),
    ),
  ),
)

pub gives_400 : (v : Reversal) (kind : OriginalKind) (k : KeptOriginal) (paid : Funds) (day : Option VelocityRow) (end : Plan) (look : Lookup) → EndsGivenBack kind v k paid day end → HasAction 400 (comes_to end look).0
gives_400 v OriginalKind.Request k paid None end look h = absurd h
gives_400 v OriginalKind.Request k paid (Some day) end look h = subst (λ (p : Plan). HasAction 400 (comes_to p look).0) (sym h) refl
gives_400 v OriginalKind.Advice k paid day end look h = subst (λ (p : Plan). HasAction 400 (comes_to p look).0) (sym h) refl

-- it is answered 400, if it isn't refused for now
right_is_done : (rows : Rows) (v : Reversal) (k : KeptOriginal) → IsRight rows v k → is_for_now (decided_by rows (reversal_frame v)) ≡ false → HasAction 400 (reply_of rows (reversal_frame v))
right_is_done rows v k r now =
    let decided = reversal_decided rows v in
    let front = skipped (lasting_conditions v (reversal_facts_of rows v)) (passing_conditions _ _ _ _) DecisionRule.GivenBack (lasting_fail rows v k r) in
    let rule = front ∙ none_passing _ _ _ _ (sym (ap is_for_now front) ∙ now) in
    let ends = subst (λ (x : DecisionRule). ReversalEnds v (reversal_facts_of rows v) x decided.0) rule decided.1 in
    subst (HasAction 400) (sym (ap (λ (p : ReplyBody × Writes). p.0) decided.2)) (gives_400 v (kind_of_outcome ends.0.outcome) ends.0 ends.1 _ decided.0 (finite.get rows) ends.4)

-- a reversal that is answered 400 is over
done_is_over : (rows : Rows) (v : Reversal) → HasAction 400 (reply_of rows (reversal_frame v)) → IsOver v (original_of (rows_after_one rows (reversal_frame v)) v)
unfolding decision
done_is_over rows v h =
    let was = was_reversed rows v _ _ (reversal_ways v (finite.get rows)) h in
    subst (IsOver v) (sym was.1.has.stands) (inr (inl (identity_of v.transaction, was.1.has.reversal)))

unposted_400 : (rows : Rows) (v : Reversal) (k : KeptOriginal) → original_of rows v ≡ Some (OriginalRow.Kept k) → is_named v k ≡ true → reversal_of_outcome k.outcome ≡ None → payment_of_outcome k.outcome ≡ None → HasAction 400 (reply_of rows (reversal_frame v))
unfolding decision
unposted_400 rows v k e named unreversed unposted =
    let reply = ap (λ (o : Option OriginalRow). (carried_out (on_reversed v o) (finite.get rows)).reply) e
    ∙ ap (λ (b : Bool). (carried_out (if b then on_reversal v k (reversal_of_outcome k.outcome) else unchanged v 914) (finite.get rows)).reply) named
    ∙ ap (λ (o : Option Identity). (carried_out (on_reversal v k o) (finite.get rows)).reply) unreversed
    ∙ ap (λ (p : Option Payment). (carried_out (on_payment v k p) (finite.get rows)).reply) unposted in
    subst (HasAction 400) (sym reply) refl

-- a reversal that was decided, and not refused for now
kept_over : (rows : Rows) (v : Reversal) (k : KeptOriginal) → original_of rows v ≡ Some (OriginalRow.Kept k) → is_for_now (decided_by rows (reversal_frame v)) ≡ false → IsOver v (original_of (rows_after_one rows (reversal_frame v)) v)
kept_over rows v k e now = by_name (is_named v k) refl
  where
    stays : IsRefusedForGood v k → IsOver v (original_of (rows_after_one rows (reversal_frame v)) v)
    stays h = stays_over rows (reversal_frame v) v (Some (OriginalRow.Kept k)) e h

    by_part : is_named v k ≡ true → reversal_of_outcome k.outcome ≡ None → (payment : Payment) → payment_of_outcome k.outcome ≡ Some payment → (b : Bool) → is_wrong_part v.scope v.transaction.amount k.amount ≡ b → IsOver v (original_of (rows_after_one rows (reversal_frame v)) v)
    by_part named unreversed payment posted true part = stays (inr (inr (payment, posted, part)))
    by_part named unreversed payment posted false part =
        done_is_over rows v (right_is_done rows v k (record { stands = e; named = named; unreversed = unreversed; payment = payment; posted = posted; part = part }) now)

    by_payment : is_named v k ≡ true → reversal_of_outcome k.outcome ≡ None → (p : Option Payment) → payment_of_outcome k.outcome ≡ p → IsOver v (original_of (rows_after_one rows (reversal_frame v)) v)
    by_payment named unreversed None unposted = done_is_over rows v (unposted_400 rows v k e named unreversed unposted)
    by_payment named unreversed (Some payment) posted = by_part named unreversed payment posted (is_wrong_part v.scope v.transaction.amount k.amount) refl

    by_reversal : is_named v k ≡ true → (by : Option Identity) → reversal_of_outcome k.outcome ≡ by → IsOver v (original_of (rows_after_one rows (reversal_frame v)) v)
    by_reversal named (Some by) r = stays (inr (inl (by, r)))
    by_reversal named None r = by_payment named r (payment_of_outcome k.outcome) refl

    by_name : (b : Bool) → is_named v k ≡ b → IsOver v (original_of (rows_after_one rows (reversal_frame v)) v)
    by_name false other = stays (inl other)
    by_name true named = by_reversal named (reversal_of_outcome k.outcome) refl

reversal_over : (rows : Rows) (v : Reversal) → is_for_now (decided_by rows (reversal_frame v)) ≡ false → (row : Option OriginalRow) → original_of rows v ≡ row → IsOver v (original_of (rows_after_one rows (reversal_frame v)) v)
unfolding decision
reversal_over rows v now None e =
    let writes = ap (λ (o : Option OriginalRow). (carried_out (on_reversed v o) (finite.get rows)).writes) e in
    subst (IsOver v) (sym (original_stands rows v.original.identity _ _ [] writes tt)) tt
reversal_over rows v now (Some (OriginalRow.Ahead mark)) e = stays_over rows (reversal_frame v) v (Some (OriginalRow.Ahead mark)) e tt
reversal_over rows v now (Some (OriginalRow.Kept k)) e = kept_over rows v k e now

-- ---- a batch

-- of a body: at its identity it would write nothing
abbrev IsSettled : Rows → Frame → Type 0
IsSettled rows (Frame.Good (Message.Request r)) = IsDone r.transaction OriginalKind.Request (row_of rows r.transaction)
IsSettled rows (Frame.Good (Message.Advice a)) = IsDone a.transaction OriginalKind.Advice (row_of rows a.transaction)
IsSettled rows (Frame.Good (Message.Reversal v)) = IsOver v (original_of rows v)
IsSettled rows (Frame.Bad fault) = Unit {0}

settled_by : (rows : Rows) (frame : Frame) → is_for_now (decided_by rows frame) ≡ false → IsSettled (rows_after_one rows frame) frame
settled_by rows (Frame.Good (Message.Request r)) now = request_done rows r _ refl
settled_by rows (Frame.Good (Message.Advice a)) now = advice_done rows a _ refl
settled_by rows (Frame.Good (Message.Reversal v)) now = reversal_over rows v now _ refl
settled_by rows (Frame.Bad fault) now = tt

stays_settled : (rows : Rows) (next frame : Frame) → IsSettled rows frame → IsSettled (rows_after_one rows next) frame
stays_settled rows next (Frame.Good (Message.Request r)) h = stays_done rows next r.transaction OriginalKind.Request _ refl h
stays_settled rows next (Frame.Good (Message.Advice a)) h = stays_done rows next a.transaction OriginalKind.Advice _ refl h
stays_settled rows next (Frame.Good (Message.Reversal v)) h = stays_over rows next v _ refl h
stays_settled rows next (Frame.Bad fault) h = tt

settled_behind : (rows : Rows) (frames : List Frame) (frame : Frame) → IsSettled rows frame → IsSettled (rows_after rows frames) frame
settled_behind rows [] frame h = h
settled_behind rows (next ∷ frames) frame h = settled_behind (rows_after_one rows next) frames frame (stays_settled rows next frame h)

all_settled : (rows : Rows) (frames : List Frame) → NoneForNow rows frames → AllByRecursion (IsSettled (rows_after rows frames)) frames
all_settled rows [] h = tt
all_settled rows (frame ∷ frames) h = (settled_behind (rows_after_one rows frame) frames frame (settled_by rows frame h.0), all_settled (rows_after_one rows frame) frames h.1)

-- such a body, sent once more, writes nothing
either : (look : Lookup) (b : Bool) (p q : Plan) → (carried_out p look).writes ≡ [] → (carried_out q look).writes ≡ [] → (carried_out (if b then p else q) look).writes ≡ []
either look true p q x y = x
either look false p q x y = y

request_writes_none : (look : Lookup) (r : Request) (row : Option OriginalRow) → IsDone r.transaction OriginalKind.Request row → (carried_out (on_original (repeat_of_request r) row) look).writes ≡ []
request_writes_none look r None done = absurd done
request_writes_none look r (Some (OriginalRow.Ahead mark)) done =
    ap (λ (b : Bool). (carried_out (if b then marked_request (repeat_of_request r) mark else declined_unkept (repeat_of_request r) 913) look).writes) done
request_writes_none look r (Some (OriginalRow.Kept kept)) done = either look (is_of_same kept r.transaction OriginalKind.Request) _ _ refl refl

advice_writes_none : (look : Lookup) (a : Advice) (row : Option OriginalRow) → IsDone a.transaction OriginalKind.Advice row → (carried_out (advice_on_original (repeat_of_advice a) row) look).writes ≡ []
advice_writes_none look a None done = absurd done
advice_writes_none look a (Some (OriginalRow.Ahead mark)) done =
    ap (λ (b : Bool). (carried_out (if b then marked_advice (repeat_of_advice a) mark else answered_unkept (repeat_of_advice a) 913) look).writes) done
advice_writes_none look a (Some (OriginalRow.Kept kept)) done = either look (is_of_same kept a.transaction OriginalKind.Advice) _ _ refl refl

wrong_part_writes_none : (look : Lookup) (v : Reversal) (k : KeptOriginal) (payment : Payment) → payment_of_outcome k.outcome ≡ Some payment → is_wrong_part v.scope v.transaction.amount k.amount ≡ true → (by : Option Identity) → (carried_out (on_reversal v k by) look).writes ≡ []
wrong_part_writes_none look v k payment posted part (Some by) = either look (v.repeat && is_same_identity by (identity_of v.transaction)) _ _ refl refl
wrong_part_writes_none look v k payment posted part None =
    ap (λ (p : Option Payment). (carried_out (on_payment v k p) look).writes) posted
    ∙ ap (λ (b : Bool). (carried_out (if b then unchanged v 110 else by_payer v k payment.payer) look).writes) part

refused_writes_none : (look : Lookup) (v : Reversal) (k : KeptOriginal) → IsRefusedForGood v k → (carried_out (on_reversed v (Some (OriginalRow.Kept k))) look).writes ≡ []
refused_writes_none look v k (inl other) = ap (λ (b : Bool). (carried_out (if b then on_reversal v k (reversal_of_outcome k.outcome) else unchanged v 914) look).writes) other
refused_writes_none look v k (inr (inl r)) =
    either look (is_named v k) _ _
    (ap (λ (o : Option Identity). (carried_out (on_reversal v k o) look).writes) r.1 ∙ either look (v.repeat && is_same_identity r.0 (identity_of v.transaction)) _ _ refl refl)
    refl
refused_writes_none look v k (inr (inr w)) = either look (is_named v k) _ _ (wrong_part_writes_none look v k w.0 w.1 w.2 (reversal_of_outcome k.outcome)) refl

-- a repeat of a reversal has its scope, amount, card and original
reversal_writes_none : (look : Lookup) (v : Reversal) (row : Option OriginalRow) → IsOver v row → (carried_out (on_reversed (repeat_of_reversal v) row) look).writes ≡ []
reversal_writes_none look v None over = absurd over
reversal_writes_none look v (Some (OriginalRow.Ahead mark)) over = refl
reversal_writes_none look v (Some (OriginalRow.Kept k)) over = refused_writes_none look (repeat_of_reversal v) k over

writes_none : (rows : Rows) (frame : Frame) → IsSettled rows frame → writes_of rows (again frame) ≡ []
unfolding decision
writes_none rows (Frame.Good (Message.Request r)) h = request_writes_none (finite.get rows) r _ h
writes_none rows (Frame.Good (Message.Advice a)) h = advice_writes_none (finite.get rows) a _ h
writes_none rows (Frame.Good (Message.Reversal v)) h = reversal_writes_none (finite.get rows) v _ h
writes_none rows (Frame.Bad fault) h = refl

all_again : (rows : Rows) (frames : List Frame) → AllByRecursion (IsSettled rows) frames → rows_after rows (map again frames) ≡ rows
all_again rows [] h = refl
all_again rows (frame ∷ frames) h = ap (λ (w : Writes). rows_after (overlay rows w) (map again frames)) (writes_none rows frame h.0) ∙ all_again rows frames h.1

-- a batch of which no reversal was refused for now
pub reversals_write_nothing_again : (rows : Rows) (frames : List Frame) → ReversalsWriteNothingAgain rows frames
reversals_write_nothing_again rows frames h = all_again (rows_after rows frames) frames (all_settled rows frames h)

-- no request and no advice is refused so
none_of : (cs : Conditions) (last : DecisionRule) → AllByRecursion (λ c. is_for_now c.0 ≡ false) cs → is_for_now last ≡ false → is_for_now (first_of cs last) ≡ false
none_of [] last h l = l
none_of (c ∷ cs) last h l =
    elim c.1 as (λ b. is_for_now (if b then c.0 else first_of cs last) ≡ false) [
      | true ↦ h.0
      | false ↦ none_of cs last h.1 l
    ]

pub requests_none_for_now : (rows : Rows) (frame : Frame) → IsNoReversal frame → is_for_now (decided_by rows frame) ≡ false
requests_none_for_now rows (Frame.Good (Message.Request r)) plain =
    none_of (request_conditions r (facts_of rows r.transaction r.account)) DecisionRule.AccountPays
    (refl, (refl, (refl, (refl, (refl, (refl, (refl, (refl, (refl, (refl, (refl, (refl, (refl, (refl, (refl, (refl, (refl, (refl, (refl, (refl, (refl, tt)))))))))))))))))))))
    refl
requests_none_for_now rows (Frame.Good (Message.Advice a)) plain =
    none_of (advice_conditions a (facts_of rows a.transaction a.account)) DecisionRule.NotSufficientFunds
    (refl, (refl, (refl, (refl, (refl, (refl, (refl, (refl, (refl, (refl, (refl, tt))))))))))) refl
requests_none_for_now rows (Frame.Good (Message.Reversal v)) plain = absurd plain
requests_none_for_now rows (Frame.Bad fault) plain = refl

requests_alone : (rows : Rows) (frames : List Frame) → AllByRecursion IsNoReversal frames → NoneForNow rows frames
requests_alone rows [] plain = tt
requests_alone rows (frame ∷ frames) plain = (requests_none_for_now rows frame plain.0, requests_alone (rows_after_one rows frame) frames plain.1)

-- a batch without reversals
pub requests_write_nothing_again : (rows : Rows) (frames : List Frame) → RequestsWriteNothingAgain rows frames
requests_write_nothing_again rows frames plain = reversals_write_nothing_again rows frames (requests_alone rows frames plain)
