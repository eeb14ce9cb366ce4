-- Every decision leaves a sound book sound.
use Rattle.std.proofs.Common.{◌≡◌, ℕ, ◌^◌, ◌≤◌, Bool, true, false, if◌then◌else◌, ◌&&◌, List, [], ◌∷◌, ◌++◌, Option, Some, None, is_some, inl, inr, refl, sym, ap, ◌∙◌, subst, arith}
use Rattle.std.proofs.lemmas.Bool.{false≢true, and_parts}
use Rattle.std.proofs.lemmas.List.Sums.{sum_by-cons}
use Rattle.std.specs.Cmp.Derive.{both_true}
use Rattle.std.specs.FinMap as map
use Rattle.std.specs.List.{AllByRecursion, list_all, sum_by}
use Rattle.issuer_words.specs.Words.{AccountId, Advice, CardRow, Frame, Funds, Identity, KeptOriginal, Mark, Message, OriginalKind, OriginalOutcome, OriginalRow, Pan, Plan, Request, Reversal, RowKey, RowVal, Rows, VelocityRow, Writes, account_in, advice_on_original, approved_card, card_in, carried_out, decision, identity_of, is_marked, is_of_same, key_of_funds, on_original, original_in, overlay, payer_of, payment_of_outcome, refunded, reversal_plan, reversed_original, row_of_funds, rows_after_one, settled_outcome, with_balance, writes_of}
use Rattle.issuer_laws.proofs.AdviceWays as advice
use Rattle.issuer_laws.proofs.Conserved.{accounts_kept, prefixes_kept}
use Rattle.issuer_laws.proofs.Funding.{IsFound}
use Rattle.issuer_laws.proofs.Keys.{get-put, get-other, same_or_other}
use Rattle.issuer_laws.proofs.RequestWays as request
use Rattle.issuer_laws.proofs.ReversalWays.{day_put, reversal_ways}
use Rattle.issuer_laws.proofs.Sums.{sum-insert}
use Rattle.book_laws.proofs.BackingLaws.{found_in}
use Rattle.book_laws.specs.CheckBook.{has_right_number, has_account, has_payer, is_backed, has_paying_account, has_accounts, IsSound}
use Rattle.book_changes.specs.Runs.{StaysSound}
use Rattle.book_laws.proofs.AccountsKept.{KeepsAllAccounts, paying_stays, accounts_stay}

abbrev Row : Type 0
Row = RowKey × RowVal

-- ---- tests of all rows

-- a row that fails a test counts one
abbrev failure : (Row → Bool) → Row → ℕ
failure test row = if test row then 0 else 1

passes : (test : Row → Bool) (row : Row) → test row ≡ true → failure test row ≡ 0
passes test row e = ap (λ (b : Bool). if◌then◌else◌ {A = ℕ} b 0 1) e

none_fails : (test : Row → Bool) (es : List Row) → list_all test es ≡ true → sum_by (failure test) es ≡ 0
none_fails test [] h = refl
none_fails test (e ∷ es) h =
    elim (test e) as (λ b. test e ≡ b → (b && list_all test es) ≡ true → sum_by (failure test) (e ∷ es) ≡ 0) [
      | true ↦ λ one rest. let ih = none_fails test es rest in omega (arith, ih, sum_by-cons (failure test) e es, passes test e one)
      | false ↦ λ one wrong. absurd (false≢true wrong)
    ] refl h

all_pass : (test : Row → Bool) (es : List Row) → sum_by (failure test) es ≡ 0 → list_all test es ≡ true
all_pass test [] h = refl
all_pass test (e ∷ es) h =
    elim (test e) as (λ b. test e ≡ b → (b && list_all test es) ≡ true) [
      | true ↦ λ one. all_pass test es (omega (arith, h, sum_by-cons (failure test) e es))
      | false ↦ λ one. absurd (let counts = ap (λ (b : Bool). if◌then◌else◌ {A = ℕ} b 0 1) one in omega (arith, h, sum_by-cons (failure test) e es, counts))
    ] refl

-- a row that passes a test is written among rows that pass it
all_behind_one : (test : Row → Bool) (rows : Rows) (k : RowKey) (v : RowVal) → list_all test (map.entries rows) ≡ true → test (k, v) ≡ true → list_all test (map.entries (map.insert rows k v)) ≡ true
all_behind_one test rows k v all one =
    let before = none_fails test (map.entries rows) all in
    let written = passes test (k, v) one in
    let and_parts = sum-insert (failure test) rows k v in
    all_pass test (map.entries (map.insert rows k v)) (omega (arith, before, written, and_parts))

all_behind : (test : Row → Bool) (rows : Rows) (ws : Writes) → list_all test (map.entries rows) ≡ true → AllByRecursion (λ w. test w ≡ true) ws → list_all test (map.entries (overlay rows ws)) ≡ true
all_behind test rows [] all each = all
all_behind test rows (w ∷ ws) all each = all_behind test (map.insert rows w.0 w.1) ws (all_behind_one test rows w.0 w.1 all each.0) each.1

-- rows that pass a test pass each that it implies
all_implied : (test other : Row → Bool) (es : List Row) → ((row : Row) → test row ≡ true → other row ≡ true) → list_all test es ≡ true → list_all other es ≡ true
all_implied test other [] implies h = refl
all_implied test other (e ∷ es) implies h =
    elim (test e) as (λ b. test e ≡ b → (b && list_all test es) ≡ true → (other e && list_all other es) ≡ true) [
      | true ↦ λ one rest. both_true (implies e one) (all_implied test other es implies rest)
      | false ↦ λ one wrong. absurd (false≢true wrong)
    ] refl h

each_passes : (test : Row → Bool) (es : List Row) → list_all test es ≡ true → AllByRecursion (λ row. test row ≡ true) es
each_passes test [] h = tt
each_passes test (e ∷ es) h =
    elim (test e) as (λ b. test e ≡ b → (b && list_all test es) ≡ true → (test e ≡ true) × AllByRecursion (λ row. test row ≡ true) es) [
      | true ↦ λ one rest. (one, each_passes test es rest)
      | false ↦ λ one wrong. absurd (false≢true wrong)
    ] refl h

-- a row of a book passes what all of its rows pass
row_passes : (test : Row → Bool) (rows : Rows) (q : RowKey) (v : RowVal) → list_all test (map.entries rows) ≡ true → map.get rows q ≡ Some v → test (q, v) ≡ true
row_passes test rows q v all at = found_in (λ k w. test (k, w) ≡ true) rows q v (each_passes test (map.entries rows) all) at

-- ---- accounts stay

-- what is written under an account's key is an account
abbrev IsAccountRow : RowKey → RowVal → Type 0
IsAccountRow (RowKey.Account id) v = is_some (account_in (Some v)) ≡ true
IsAccountRow (RowKey.Card pan) v = Unit {0}
IsAccountRow (RowKey.Velocity pan day) v = Unit {0}
IsAccountRow (RowKey.Budget prefix) v = Unit {0}
IsAccountRow (RowKey.Original identity) v = Unit {0}

account_behind : (rows : Rows) (ws : Writes) (id : AccountId) → AllByRecursion (λ w. IsAccountRow w.0 w.1) ws → has_account rows id ≡ true → has_account (overlay rows ws) id ≡ true
account_behind rows [] id each h = h
account_behind rows (w ∷ ws) id each h =
    account_behind (map.insert rows w.0 w.1) ws id each.1 (elim (same_or_other (RowKey.Account id) w.0) [
      | inl same ↦
          ap (λ (o : Option RowVal). is_some (account_in o)) (ap (map.get (map.insert rows w.0 w.1)) same ∙ get-put rows w.0 w.1)
          ∙ subst (λ (k : RowKey). IsAccountRow k w.1) (sym same) each.0
      | inr other ↦ ap (λ (o : Option RowVal). is_some (account_in o)) (get-other rows w.0 w.1 (RowKey.Account id) other) ∙ h
    ])

-- ---- rows that are written

-- as right, on these rows, as the rows of a sound book
record IsRightRow (rows : Rows) (w : Row) : Type 0 where
  number : has_right_number w.0 ≡ true
  payer : has_paying_account rows w.1 ≡ true
  accounts : has_accounts rows w.1 ≡ true
  account : IsAccountRow w.0 w.1

abbrev AreRight : Rows → Writes → Type 0
AreRight rows = AllByRecursion (IsRightRow rows)

original_right : (rows : Rows) (identity : Identity) (k : KeptOriginal) → is_backed rows (payment_of_outcome k.outcome) ≡ true → IsRightRow rows (RowKey.Original identity, RowVal.Kept k)
original_right rows identity k h = record { number = refl; payer = h; accounts = refl; account = tt }

mark_right : (rows : Rows) (identity : Identity) (mark : Mark) → IsRightRow rows (RowKey.Original identity, RowVal.Ahead mark)
mark_right rows identity mark = record { number = refl; payer = refl; accounts = refl; account = tt }

day_right : (rows : Rows) (pan : Pan) (day : List ℕ) (row : VelocityRow) → IsRightRow rows (RowKey.Velocity pan day, RowVal.Velocity row)
day_right rows pan day row = record { number = refl; payer = refl; accounts = refl; account = tt }

funds_right : (rows : Rows) (f : Funds) (n : ℕ) → IsRightRow rows (key_of_funds f, row_of_funds (with_balance f n))
funds_right rows (Funds.Account id row) n = record { number = refl; payer = refl; accounts = refl; account = refl }
funds_right rows (Funds.Budget prefix row) n = record { number = refl; payer = refl; accounts = refl; account = tt }

is_card : (o : Option RowVal) (card : CardRow) → card_in o ≡ Some card → o ≡ Some (RowVal.Card card)
is_card (Some (RowVal.Card row)) card e = let same : row ≡ card = cc in ap (λ (c : CardRow). Some (RowVal.Card c)) same
is_card (Some (RowVal.Velocity row)) card e = absurd (cc)
is_card (Some (RowVal.Budget row)) card e = absurd (cc)
is_card (Some (RowVal.Kept k)) card e = absurd (cc)
is_card (Some (RowVal.Ahead mark)) card e = absurd (cc)
is_card (Some (RowVal.Account row)) card e = absurd (cc)
is_card None card e = absurd (cc)

pub is_kept : (o : Option RowVal) (k : KeptOriginal) → original_in o ≡ Some (OriginalRow.Kept k) → o ≡ Some (RowVal.Kept k)
is_kept (Some (RowVal.Kept l)) k e = let same : l ≡ k = cc in ap (λ (x : KeptOriginal). Some (RowVal.Kept x)) same
is_kept (Some (RowVal.Ahead mark)) k e = absurd (cc)
is_kept (Some (RowVal.Card row)) k e = absurd (cc)
is_kept (Some (RowVal.Velocity row)) k e = absurd (cc)
is_kept (Some (RowVal.Budget row)) k e = absurd (cc)
is_kept (Some (RowVal.Account row)) k e = absurd (cc)
is_kept None k e = absurd (cc)

card_right : (rows : Rows) → IsSound rows → (pan : Pan) (card : CardRow) → card_in (map.get rows (RowKey.Card pan)) ≡ Some card → IsRightRow rows (RowKey.Card pan, RowVal.Card (approved_card card))
card_right rows sound pan card stands =
    let at = is_card (map.get rows (RowKey.Card pan)) card stands in
    record {
      number = row_passes (λ row. has_right_number row.0) rows (RowKey.Card pan) (RowVal.Card card) sound.numbers at;
      payer = refl;
      accounts = row_passes (λ row. has_accounts rows row.1) rows (RowKey.Card pan) (RowVal.Card card) sound.accounts at;
      account = tt;
    }

paying_backed : (rows : Rows) (f : Funds) → IsFound (map.get rows) f → has_payer rows (payer_of f) ≡ true
paying_backed rows (Funds.Account id row) found = ap is_some found
paying_backed rows (Funds.Budget prefix row) found = refl

pub kept_backed : (rows : Rows) → IsSound rows → (identity : Identity) (k : KeptOriginal) → original_in (map.get rows (RowKey.Original identity)) ≡ Some (OriginalRow.Kept k) → is_backed rows (payment_of_outcome k.outcome) ≡ true
kept_backed rows sound identity k stands =
    row_passes (λ row. has_paying_account rows row.1) rows (RowKey.Original identity) (RowVal.Kept k) sound.payers (is_kept (map.get rows (RowKey.Original identity)) k stands)

-- a reversal leaves who paid
settled_backed : (rows : Rows) (o : OriginalOutcome) (by : Identity) (n : ℕ) → is_backed rows (payment_of_outcome o) ≡ true → is_backed rows (payment_of_outcome (settled_outcome o by n)) ≡ true
settled_backed rows (OriginalOutcome.Approved code payment) by n h = h
settled_backed rows (OriginalOutcome.Declined action other) by n h = refl
settled_backed rows (OriginalOutcome.Accepted payment) by n h = h
settled_backed rows (OriginalOutcome.Acknowledged action other) by n h = refl

-- what a plan writes
abbrev WritesRight : Rows → Plan → Type 0
WritesRight rows plan = AreRight rows (carried_out plan (map.get rows)).writes

either : (rows : Rows) (b : Bool) (p q : Plan) → WritesRight rows p → WritesRight rows q → WritesRight rows (if b then p else q)
either rows true p q x y = x
either rows false p q x y = y

these : (rows : Rows) (ws writes : Writes) → writes ≡ ws → AreRight rows ws → AreRight rows writes
these rows ws writes e h = subst (AreRight rows) (sym e) h

request_right : (rows : Rows) → IsSound rows → (r : Request) (row : Option OriginalRow) → WritesRight rows (on_original r row)
request_right rows sound r None =
    elim (request.fresh_ways r (map.get rows)) [
      | inl d ↦ these rows _ _ d.writes (original_right rows (identity_of r.transaction) _ refl, tt)
      | inr a ↦
          these rows _ _ a.writes (
            original_right rows (identity_of r.transaction) _ (paying_backed rows a.paying a.pays.found),
            (card_right rows sound r.transaction.pan a.card a.stands, (day_right rows r.transaction.pan _ _, (funds_right rows a.paying _, tt))),
          )
    ]
request_right rows sound r (Some (OriginalRow.Ahead mark)) =
    either rows (is_marked mark r.transaction OriginalKind.Request) _ _ (original_right rows (identity_of r.transaction) _ refl, tt) tt
request_right rows sound r (Some (OriginalRow.Kept k)) = either rows (r.repeat && is_of_same k r.transaction OriginalKind.Request) _ _ tt tt

advice_right : (rows : Rows) → IsSound rows → (a : Advice) (row : Option OriginalRow) → WritesRight rows (advice_on_original a row)
advice_right rows sound a None =
    elim (advice.fresh_ways a (map.get rows)) [
      | inl d ↦ these rows _ _ d.writes (original_right rows (identity_of a.transaction) _ refl, tt)
      | inr w ↦
          these rows _ _ w.writes
          (original_right rows (identity_of a.transaction) _ (paying_backed rows w.paying w.pays.found), (funds_right rows w.paying _, tt))
    ]
advice_right rows sound a (Some (OriginalRow.Ahead mark)) =
    either rows (is_marked mark a.transaction OriginalKind.Advice) _ _ (original_right rows (identity_of a.transaction) _ refl, tt) tt
advice_right rows sound a (Some (OriginalRow.Kept k)) = either rows (a.repeat && is_of_same k a.transaction OriginalKind.Advice) _ _ tt tt

posted_right : (rows : Rows) → IsSound rows → (v : Reversal) (k : KeptOriginal) (paid : Funds) (day : Option VelocityRow) → original_in (map.get rows (RowKey.Original v.original.identity)) ≡ Some (OriginalRow.Kept k) → AreRight rows (reversed_original v k ∷ (day_put v k day ++ refunded v k paid ∷ []))
posted_right rows sound v k paid None stands =
    (original_right rows v.original.identity _ (settled_backed rows k.outcome _ _ (kept_backed rows sound v.original.identity k stands)), (funds_right rows paid _, tt))
posted_right rows sound v k paid (Some day) stands =
    (original_right rows v.original.identity _ (settled_backed rows k.outcome _ _ (kept_backed rows sound v.original.identity k stands)), (day_right rows k.card _ _, (funds_right rows paid _, tt)))

reversal_right : (rows : Rows) → IsSound rows → (v : Reversal) → WritesRight rows (reversal_plan v)
reversal_right rows sound v =
    elim (reversal_ways v (map.get rows)) [
      | inl w ↦ these rows [] _ w.writes tt
      | inr w1 ↦ elim w1 [
        | inl w ↦ these rows _ _ w.writes (mark_right rows v.original.identity _, tt)
        | inr w2 ↦ elim w2 [
          | inl w ↦ these rows [] _ w.writes tt
          | inr w3 ↦ elim w3 [
            | inl w ↦
                these rows _ _ w.writes
                (original_right rows v.original.identity _ (settled_backed rows w.kept.outcome _ _ (kept_backed rows sound v.original.identity w.kept w.names.stands)), tt)
            | inr s ↦ these rows _ _ s.writes (posted_right rows sound v s.kept s.paid s.day s.names.stands)
          ]
        ]
      ]
    ]

writes_right : (rows : Rows) → IsSound rows → (frame : Frame) → AreRight rows (writes_of rows frame)
unfolding decision
writes_right rows sound (Frame.Good (Message.Request r)) = request_right rows sound r _
writes_right rows sound (Frame.Good (Message.Advice a)) = advice_right rows sound a _
writes_right rows sound (Frame.Good (Message.Reversal v)) = reversal_right rows sound v
writes_right rows sound (Frame.Bad fault) = tt

-- ---- the book behind them

each_of : (P Q : Row → Type 0) (ws : Writes) → ((w : Row) → P w → Q w) → AllByRecursion P ws → AllByRecursion Q ws
each_of P Q [] f h = tt
each_of P Q (w ∷ ws) f h = (f w h.0, each_of P Q ws f h.1)

sound_behind : (rows : Rows) (frame : Frame) → IsSound rows → IsSound (rows_after_one rows frame)
sound_behind rows frame sound =
    let ws = writes_of rows frame in
    let after = rows_after_one rows frame in
    let right : AreRight rows (writes_of rows frame) = writes_right rows sound frame in
    let keeps : KeepsAllAccounts rows (rows_after_one rows frame) =
    λ id. account_behind rows (writes_of rows frame) id (each_of (IsRightRow rows) (λ w. IsAccountRow w.0 w.1) (writes_of rows frame) (λ w h. h.account) right)
    in
    record {
      numbers = all_behind (λ row. has_right_number row.0) rows ws sound.numbers (each_of (IsRightRow rows) (λ w. has_right_number w.0 ≡ true) ws (λ w h. h.number) right);
      payers =
          all_behind (λ row. has_paying_account after row.1) rows ws
          (all_implied (λ row. has_paying_account rows row.1) (λ row. has_paying_account after row.1) (map.entries rows) (λ row. paying_stays rows after keeps row.1) sound.payers)
          (each_of (IsRightRow rows) (λ w. has_paying_account after w.1 ≡ true) ws (λ w h. paying_stays rows after keeps w.1 h.payer) right);
      backings = (λ id. subst (λ n. n ≤ 10 ^ 15) (sym (accounts_kept rows frame id)) (sound.backings.0 id), λ prefix. subst (λ n. n ≤ 10 ^ 15) (sym (prefixes_kept rows frame prefix)) (sound.backings.1 prefix));
      accounts =
          all_behind (λ row. has_accounts after row.1) rows ws
          (all_implied (λ row. has_accounts rows row.1) (λ row. has_accounts after row.1) (map.entries rows) (λ row. accounts_stay rows after keeps row.1) sound.accounts)
          (each_of (IsRightRow rows) (λ w. has_accounts after w.1 ≡ true) ws (λ w h. accounts_stay rows after keeps w.1 h.accounts) right);
    }

-- whatever comes, the book is sound
pub stays_sound : (frames : List Frame) (rows : Rows) → StaysSound rows frames
stays_sound [] rows sound = sound
stays_sound (frame ∷ frames) rows sound = stays_sound frames (rows_after_one rows frame) (sound_behind rows frame sound)
