-- Messages that need no row of the past are answered alike.
use Rattle.std.proofs.Common.{◌≡◌, ◌≢◌, ℕ, Bool, true, false, not, cond, List, [], ◌∷◌, ◌++◌, Option, Some, None, inl, inr, IsTrue, refl, sym, ap, ◌∙◌, subst}
use Rattle.std.proofs.lemmas.Bool.{false≢true}
use Rattle.std.specs.FinMap as map
use Rattle.std.specs.List.{AllByRecursion}
use Rattle.issuer_words.specs.Words.{AccountId, CardRow, Decided, Frame, Message, OriginalRow, Pan, Payer, Payment, RowKey, RowVal, Rows, card_in, day_of, decision, original_in, overlay, payment_of_outcome, prefix_of, replies_to, reply_of, rows_after, rows_after_one, writes_of}
use Rattle.issuer_rows.proofs.KeyLaws.{key_cmp_total, key_cmp_antisymmetric}
use Rattle.issuer_laws.proofs.Needed.{IsFollowing, follows_itself, follows_one, written_needed, looked_needed}
use Rattle.issuer_laws.proofs.Parts.{each_of, same_behind, same_decision, unwritten}
use Rattle.issuer_laws.specs.Parts.{IsIn, MayLook, second_key, account_keys, accounts_at, if_there, budget_at, payer_keys, payment_keys, paying_keys, payer_at, funds_at, may_need}
use Rattle.issuer_laws.specs.Rules.{has}
use Rattle.book_changes.specs.Archive.{is_before, is_past, is_past_at, new_rows}
use Rattle.book_changes.specs.Deciding.{NeedsNoPast, IsAnsweredAlike, AnswersAlike, is_later, LaterNeedsNoPast, ArchivesAnyTime}
use Rattle.book_changes.proofs.Splitting.{get_new}

-- ---- one message

pub at : {A : Type 0} (P : A → Type 0) (xs : List A) (x : A) → AllByRecursion P xs → IsIn x xs → P x
at P [] x h i = absurd i
at P (y ∷ xs) x h (inl e) = subst P (sym e) h.0
at P (y ∷ xs) x h (inr i) = at P xs x h.1 i

-- no row of the past is under the key of a budget that isn't there
absent_now : (date : List ℕ) (rows : Rows) (k : RowKey) → map.get rows k ≡ None → is_past_at date rows k ≡ false
absent_now date rows k none = ap (has (is_past date k)) none

-- Both books behind the same messages: the one on the whole book, the other on the new one.
record AreAlike (date : List ℕ) (opening whole alone : Rows) : Type 0 where
  others : (k : RowKey) → is_past_at date opening k ≡ false → map.get whole k ≡ map.get alone k
  past : (k : RowKey) → is_past_at date opening k ≡ true → map.get whole k ≡ map.get opening k
  gone : (k : RowKey) → is_past_at date opening k ≡ true → map.get alone k ≡ None

begin_alike : (date : List ℕ) (rows : Rows) → AreAlike date rows rows (new_rows date rows)
begin_alike date rows = record {
  others = λ k h. sym (get_new date rows k ∙ ap (λ b. cond (not b) (map.get rows k) None) h);
  past = λ k h. refl;
  gone = λ k h. get_new date rows k ∙ ap (λ b. cond (not b) (map.get rows k) None) h;
}

alike_decision : (date : List ℕ) (opening whole alone : Rows) (frame : Frame) → IsFollowing opening whole → AreAlike date opening whole alone → NeedsNoPast date opening frame → decision (map.get whole) frame ≡ decision (map.get alone) frame
alike_decision date opening whole alone frame follows alike needs =
    same_decision frame (map.get whole) (map.get alone)
    (each_of (MayLook opening frame) (λ k. map.get whole k ≡ map.get alone k) (decision (map.get whole) frame).needs
    (λ k looked. elim looked [
      | inl needed ↦ alike.others k (at (λ q. is_past_at date opening q ≡ false) (may_need opening frame) k needs needed)
      | inr none ↦ alike.others k (absent_now date opening k none.2)
    ])
    (looked_needed opening whole follows frame))

-- a row that the message may not need isn't written
untouched : (opening whole : Rows) (frame : Frame) (k : RowKey) → IsFollowing opening whole → (IsIn k (may_need opening frame) → ⊥) → map.get (rows_after_one whole frame) k ≡ map.get whole k
untouched opening whole frame k follows apart =
    unwritten whole (writes_of whole frame) k
    (each_of (λ w. IsIn w.0 (may_need opening frame)) (λ w. k ≢ w.0) (writes_of whole frame)
    (λ w needed same. apart (subst (λ (q : RowKey). IsIn q (may_need opening frame)) (sym same) needed))
    (written_needed opening whole follows frame))

alike_behind : (date : List ℕ) (opening whole alone : Rows) (frame : Frame) → IsFollowing opening whole → AreAlike date opening whole alone → NeedsNoPast date opening frame → AreAlike date opening (rows_after_one whole frame) (rows_after_one alone frame)
alike_behind date opening whole alone frame follows alike needs =
    let same = alike_decision date opening whole alone frame follows alike needs in
    let not_needed = λ (k : RowKey) (past : is_past_at date opening k ≡ true) (needed : IsIn k (may_need opening frame)).
    false≢true (sym (at (λ q. is_past_at date opening q ≡ false) (may_need opening frame) k needs needed) ∙ past)
    in
    record {
      others = λ k h. same_behind whole alone (writes_of whole frame) k (alike.others k h) ∙ ap (λ (d : Decided). map.get (overlay alone d.writes) k) same;
      past = λ k h. untouched opening whole frame k follows (not_needed k h) ∙ alike.past k h;
      gone = λ k h.
          ap (λ (d : Decided). map.get (overlay alone d.writes) k) (sym same)
          ∙ unwritten alone (writes_of whole frame) k
          (each_of (λ w. IsIn w.0 (may_need opening frame)) (λ w. k ≢ w.0) (writes_of whole frame)
          (λ w needed e. not_needed k h (subst (λ (q : RowKey). IsIn q (may_need opening frame)) (sym e) needed))
          (written_needed opening whole follows frame))
          ∙ alike.gone k h;
    }

-- ---- all messages

record GoOnAlike (date : List ℕ) (opening whole alone : Rows) (frames : List Frame) : Type 0 where
  replies : replies_to alone frames ≡ replies_to whole frames
  rows : AreAlike date opening (rows_after whole frames) (rows_after alone frames)

go_on_alike : (date : List ℕ) (opening whole alone : Rows) (frames : List Frame) → IsFollowing opening whole → AreAlike date opening whole alone → AllByRecursion (NeedsNoPast date opening) frames → GoOnAlike date opening whole alone frames
go_on_alike date opening whole alone [] follows alike needs = record { replies = refl; rows = alike }
go_on_alike date opening whole alone (frame ∷ frames) follows alike needs =
    let reply : reply_of alone frame ≡ reply_of whole frame = sym (ap (λ (d : Decided). d.reply) (alike_decision date opening whole alone frame follows alike needs.0)) in
    let rest =
    go_on_alike date opening (rows_after_one whole frame) (rows_after_one alone frame) frames (follows_one opening whole follows frame) (alike_behind date opening whole alone frame follows alike needs.0) needs.1
    in
    record { replies = λ i. reply i ∷ rest.replies i; rows = rest.rows }

pub answers_alike : (date : List ℕ) (rows : Rows) (frames : List Frame) → AnswersAlike date rows frames
answers_alike date rows frames needs =
    let all = go_on_alike date rows rows (new_rows date rows) frames (follows_itself rows) (begin_alike date rows) needs in
    record {
      replies = all.replies;
      others = λ k h. sym (all.rows.others k h);
      past = all.rows.past;
      gone = all.rows.gone;
    }

-- ---- messages of the date and later

-- the key is of a day before the date
abbrev pub is_past_key : List ℕ → RowKey → Bool
is_past_key date (RowKey.Velocity pan day) = is_before date day
is_past_key date (RowKey.Original identity) = is_before date (day_of identity.stamp)
is_past_key date (RowKey.Card pan) = false
is_past_key date (RowKey.Budget prefix) = false
is_past_key date (RowKey.Account id) = false

-- no row of another key is of the past
not_past : (date : List ℕ) (k : RowKey) (v : RowVal) → is_past_key date k ≡ false → is_past date k v ≡ false
not_past date (RowKey.Card pan) v h = refl
not_past date (RowKey.Budget prefix) v h = refl
not_past date (RowKey.Account id) v h = refl
not_past date (RowKey.Velocity pan day) (RowVal.Velocity spent) h = h
not_past date (RowKey.Velocity pan day) (RowVal.Card row) h = refl
not_past date (RowKey.Velocity pan day) (RowVal.Budget row) h = refl
not_past date (RowKey.Velocity pan day) (RowVal.Kept k) h = refl
not_past date (RowKey.Velocity pan day) (RowVal.Ahead mark) h = refl
not_past date (RowKey.Velocity pan day) (RowVal.Account row) h = refl
not_past date (RowKey.Original identity) (RowVal.Kept k) h = h
not_past date (RowKey.Original identity) (RowVal.Velocity spent) h = refl
not_past date (RowKey.Original identity) (RowVal.Card row) h = refl
not_past date (RowKey.Original identity) (RowVal.Budget row) h = refl
not_past date (RowKey.Original identity) (RowVal.Ahead mark) h = refl
not_past date (RowKey.Original identity) (RowVal.Account row) h = refl

pub not_past_at : (date : List ℕ) (rows : Rows) (k : RowKey) → is_past_key date k ≡ false → is_past_at date rows k ≡ false
not_past_at date rows k h = each (map.get rows k)
  where
    each : (o : Option RowVal) → has (is_past date k) o ≡ false
    each None = refl
    each (Some v) = not_past date k v h

abbrev AreNow : List ℕ → List RowKey → Type 0
AreNow date ks = AllByRecursion (λ k. is_past_key date k ≡ false) ks

now_both : (date : List ℕ) (xs ys : List RowKey) → AreNow date xs → AreNow date ys → AreNow date (xs ++ ys)
now_both date [] ys h i = i
now_both date (x ∷ xs) ys h i = (h.0, now_both date xs ys h.1 i)

accounts_now : (date : List ℕ) (card : Option CardRow) → AreNow date (account_keys card)
accounts_now date None = tt
accounts_now date (Some card) = (refl, second card.accounts.second)
  where
    second : (id : Option AccountId) → AreNow date (second_key id)
    second None = tt
    second (Some id) = (refl, tt)

funds_now : (date : List ℕ) (rows : Rows) (pan : Pan) → AreNow date (funds_at rows pan)
funds_now date rows pan =
    now_both date (accounts_at rows pan) (budget_at rows pan) (accounts_now date (card_in (map.get rows (RowKey.Card pan)))) (there (map.get rows (RowKey.Budget (prefix_of pan))))
  where
    there : (o : Option RowVal) → AreNow date (if_there (RowKey.Budget (prefix_of pan)) o)
    there None = tt
    there (Some v) = (refl, tt)

payer_now : (date : List ℕ) (row : Option OriginalRow) → AreNow date (paying_keys row)
payer_now date None = tt
payer_now date (Some (OriginalRow.Ahead mark)) = tt
payer_now date (Some (OriginalRow.Kept k)) = of_payment (payment_of_outcome k.outcome)
  where
    of_payer : (p : Payer) → AreNow date (payer_keys p)
    of_payer (Payer.Account id) = (refl, tt)
    of_payer Payer.Budget = tt

    of_payment : (p : Option Payment) → AreNow date (payment_keys p)
    of_payment None = tt
    of_payment (Some payment) = of_payer payment.payer

turned : (b : Bool) → IsTrue (not b) → b ≡ false
turned true h = absurd (false≢true h)
turned false h = refl

-- such a message may need rows of the date and later alone, or of no day
later_now : (date : List ℕ) (rows : Rows) (frame : Frame) → IsTrue (is_later date frame) → AreNow date (may_need rows frame)
later_now date rows (Frame.Good (Message.Request r)) h =
    let now = turned (is_before date (day_of r.transaction.stamp)) h in (now, (now, (refl, funds_now date rows r.transaction.pan)))
later_now date rows (Frame.Good (Message.Advice a)) h =
    let now = turned (is_before date (day_of a.transaction.stamp)) h in (now, (refl, funds_now date rows a.transaction.pan))
later_now date rows (Frame.Good (Message.Reversal v)) h =
    let now = turned (is_before date (day_of v.original.identity.stamp)) h in (
      now,
      (
        now,
        now_both date (payer_at rows v.original.identity) (funds_at rows v.transaction.pan) (payer_now date (original_in (map.get rows (RowKey.Original v.original.identity)))) (funds_now date rows v.transaction.pan),
      ),
    )
later_now date rows (Frame.Bad fault) h = tt

pub later_needs_no_past : (date : List ℕ) (rows : Rows) (frame : Frame) → LaterNeedsNoPast date rows frame
later_needs_no_past date rows frame h =
    each_of (λ k. is_past_key date k ≡ false) (λ k. is_past_at date rows k ≡ false) (may_need rows frame) (λ k now. not_past_at date rows k now) (later_now date rows frame h)

-- such messages write no row under a key of the past
all_untouched : (date : List ℕ) (opening whole : Rows) (frames : List Frame) (k : RowKey) → IsFollowing opening whole → AllByRecursion (λ frame. IsTrue (is_later date frame)) frames → is_past_key date k ≡ true → map.get (rows_after whole frames) k ≡ map.get whole k
all_untouched date opening whole [] k follows later past = refl
all_untouched date opening whole (frame ∷ frames) k follows later past =
    all_untouched date opening (rows_after_one whole frame) frames k (follows_one opening whole follows frame) later.1 past
    ∙ untouched opening whole frame k follows
    (λ needed. false≢true (sym (at (λ q. is_past_key date q ≡ false) (may_need opening frame) k (later_now date opening frame later.0) needed) ∙ past))

pub archives_any_time : (date : List ℕ) (rows : Rows) (frames : List Frame) → ArchivesAnyTime date rows frames
archives_any_time date rows frames later =
    let alike = answers_alike date rows frames (each_of (λ frame. IsTrue (is_later date frame)) (NeedsNoPast date rows) frames (later_needs_no_past date rows) later) in
    map.same_map key_cmp_total key_cmp_antisymmetric _ _ (λ k. one alike k ∙ sym (get_new date (rows_after rows frames) k))
  where
    kept : (b : Bool) (o : Option RowVal) → b ≡ false → o ≡ cond (not b) o None
    kept b o h = ap (λ c. cond (not c) o None) (sym h)

    one : IsAnsweredAlike date rows frames → (k : RowKey) → map.get (rows_after (new_rows date rows) frames) k ≡ cond (not (is_past_at date (rows_after rows frames) k)) (map.get (rows_after rows frames) k) None
    one alike k =
        elim (is_past_at date rows k) as (λ b. is_past_at date rows k ≡ b → map.get (rows_after (new_rows date rows) frames) k ≡ cond (not (is_past_at date (rows_after rows frames) k)) (map.get (rows_after rows frames) k) None) [
          | true ↦ λ past.
              let still : is_past_at date (rows_after rows frames) k ≡ true = ap (has (is_past date k)) (alike.past k past) ∙ past in
              alike.gone k past ∙ ap (λ b. cond (not b) (map.get (rows_after rows frames) k) None) (sym still)
          | false ↦ λ now.
              alike.others k now
              ∙ kept (is_past_at date (rows_after rows frames) k) (map.get (rows_after rows frames) k)
              (elim (is_past_key date k) as (λ b. is_past_key date k ≡ b → is_past_at date (rows_after rows frames) k ≡ false) [
                | true ↦ λ before. ap (has (is_past date k)) (all_untouched date rows rows frames k (follows_itself rows) later before) ∙ now
                | false ↦ λ other. not_past_at date (rows_after rows frames) k other
              ] refl)
        ] refl
