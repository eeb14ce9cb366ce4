-- What an account has less than before is what was taken from it, less what was returned to it.
use Rattle.std.proofs.Common.{◌≡◌, ◌≢◌, ℕ, ◌+◌, ◌-◌, ◌<◌, ◌≤◌, Bool, true, false, ◌&&◌, ◌==◌, if◌then◌else◌, List, [], ◌∷◌, ◌++◌, Option, Some, None, is_none, inl, inr, refl, sym, ap, ◌∙◌, subst, arith}
use Rattle.std.proofs.lemmas.Bool.{false≢true}
use Rattle.std.proofs.lemmas.Bool.Decides.{nat_tests}
use Rattle.std.specs.FinMap as map
use Rattle.issuer_words.specs.Words.{AccountId, Advice, Frame, Funds, Identity, KeptOriginal, Lookup, Message, OriginalKind, OriginalRow, Payer, Payment, Plan, ReplyBody, Request, Reversal, RowKey, RowVal, Rows, VelocityRow, Writes, accepted_writes, account_in, account_paid, advice_on_original, approved_writes, available_in, balance_of, carried_out, decision, given_back, identity_of, is_account, is_from_account, is_marked, is_of_same, is_same_account, on_original, overlay, payer_of, refunded, reply_of, reversal_of_outcome, reversed_original, rows_after_one}
use Rattle.issuer_rows.proofs.PutsOnce.{IsFresh}
use Rattle.issuer_laws.proofs.AdviceWays as advice
use Rattle.issuer_laws.proofs.Funding.{IsFound, same_account}
use Rattle.issuer_laws.proofs.Keys.{get-fresh, texts_apart, funds_other, original_stands}
use Rattle.issuer_laws.proofs.RequestWays as request
use Rattle.issuer_laws.proofs.ReversalWays.{SettlesPosted, day_put, reversal_ways}
use Rattle.issuer_laws.proofs.Written.{WritesOne, value_behind, value_there}
use Rattle.issuer_laws.specs.Reconciled.{available, original_at, is_answered, is_paid_from, taken, returned_of, returned, IsReconciled}
use Rattle.issuer_laws.proofs.Covered.{nothing_if}

-- ---- the row that pays

-- what is written of accounts where these funds get another balance: that account alone, or none
abbrev WritesFunds : Writes → Funds → ℕ → Type 0
WritesFunds ws (Funds.Account id row) n = WritesOne 4 ws (RowKey.Account id) (RowVal.Account (record row { available = n }))
WritesFunds ws (Funds.Budget prefix row) n = IsFresh 4 ws

other_account : (a b : AccountId) → is_same_account a b ≡ false → RowKey.Account b ≢ RowKey.Account a
other_account a b e same = let one : b ≡ a = cc in texts_apart a.0 b.0 e (ap (λ (x : AccountId). x.0) (sym one))

untouched : (rows : Rows) (ws : Writes) (id : AccountId) → IsFresh 4 ws → available (overlay rows ws) id ≡ available rows id
untouched rows ws id fresh = ap (λ (o : Option RowVal). available_in (account_in o)) (get-fresh rows ws (RowKey.Account id) fresh)

-- what is available behind them, where the funds are this account, and where they aren't
own_balance : (rows : Rows) (ws : Writes) (f : Funds) (n : ℕ) (id : AccountId) → WritesFunds ws f n → is_account id (payer_of f) ≡ true → available (overlay rows ws) id ≡ n
own_balance rows ws (Funds.Account a row) n id w own =
    let same = same_account a id own in
    subst (λ (x : AccountId). available (overlay rows ws) x ≡ n) same (ap (λ (o : Option RowVal). available_in (account_in o)) (value_there rows ws (RowKey.Account a) (RowVal.Account (record row { available = n })) w))
own_balance rows ws (Funds.Budget prefix row) n id w own = absurd (false≢true own)

other_balance : (rows : Rows) (ws : Writes) (f : Funds) (n : ℕ) (id : AccountId) → WritesFunds ws f n → is_account id (payer_of f) ≡ false → available (overlay rows ws) id ≡ available rows id
other_balance rows ws (Funds.Account a row) n id w other =
    elim (value_behind rows ws (RowKey.Account a) (RowVal.Account (record row { available = n })) (RowKey.Account id) refl w) [
      | inl own ↦ absurd (other_account a id other own.0)
      | inr same ↦ ap (λ (o : Option RowVal). available_in (account_in o)) same
    ]
other_balance rows ws (Funds.Budget prefix row) n id w other = untouched rows ws id w

balance_before : (rows : Rows) (f : Funds) (id : AccountId) → IsFound (map.get rows) f → is_account id (payer_of f) ≡ true → available rows id ≡ balance_of f
balance_before rows (Funds.Account a row) id found own =
    subst (λ (x : AccountId). available rows x ≡ row.available) (same_account a id own) (ap available_in found)
balance_before rows (Funds.Budget prefix row) id found own = absurd (false≢true own)

-- money that is taken, and money that is returned
taking : (before after amount balance : ℕ) (own : Bool) → (own ≡ true → before ≡ balance) → (own ≡ true → after ≡ balance - amount) → (own ≡ false → after ≡ before) → amount ≤ balance → before ≡ after + (if own then amount else 0)
taking before after amount balance true b a o enough = let x = b refl in let y = a refl in omega (arith, x, y, enough)
taking before after amount balance false b a o enough = let y = o refl in omega (arith, y)

giving : (before after amount balance : ℕ) (own : Bool) → (own ≡ true → before ≡ balance) → (own ≡ true → after ≡ balance + amount) → (own ≡ false → after ≡ before) → before + (if own then amount else 0) ≡ after
giving before after amount balance true b a o = let x = b refl in let y = a refl in omega (arith, x, y)
giving before after amount balance false b a o = let y = o refl in omega (arith, y)

-- ---- one message

-- what one body does
abbrev Balances : AccountId → Rows → Frame → Type 0
Balances id rows frame = available rows id + returned id rows frame ≡ available (rows_after_one rows frame) id + taken id rows frame

nothing_taken : (a b : Bool) (amount : ℕ) → a ≡ false → (if a && b then amount else 0) ≡ 0
nothing_taken a b amount e = ap (λ (x : Bool). if◌then◌else◌ {A = ℕ} (x && b) amount 0) e

taken_if : (first answered own : Bool) (amount : ℕ) → first ≡ true → answered ≡ true → (if first && (answered && own) then amount else 0) ≡ (if own then amount else 0)
taken_if first answered own amount e f = ap (λ (x : Bool). if◌then◌else◌ {A = ℕ} (x && (answered && own)) amount 0) e ∙ ap (λ (x : Bool). if◌then◌else◌ {A = ℕ} (x && own) amount 0) f

not_answered : (first answered own : Bool) (amount : ℕ) → answered ≡ false → (if first && (answered && own) then amount else 0) ≡ 0
not_answered true answered own amount e = ap (λ (x : Bool). if◌then◌else◌ {A = ℕ} (x && own) amount 0) e
not_answered false answered own amount e = refl

-- a balance where no account is written and nothing is taken
unmoved : (before after t : ℕ) → after ≡ before → t ≡ 0 → before + 0 ≡ after + t
unmoved before after t e f = omega (arith, e, f)

moved : (before after t x : ℕ) → before ≡ after + x → t ≡ x → before + 0 ≡ after + t
moved before after t x e f = omega (arith, e, f)

not_zero : (n : ℕ) → 0 < n → (n == 0) ≡ false
not_zero n h = grind (arith, nat_tests)

-- of two plans, by a test
either : (b : Bool) (p q : Plan) (look : Lookup) → IsFresh 4 (carried_out p look).writes → IsFresh 4 (carried_out q look).writes → IsFresh 4 (carried_out (if b then p else q) look).writes
either true p q look x y = x
either false p q look x y = y

-- ---- requests

approved_writes_funds : (look : Lookup) (r : Request) (reply : ReplyBody) (writes : Writes) (a : request.Approves r look reply writes) (f : Funds) → a.paying ≡ f → WritesFunds writes f (balance_of f - r.transaction.amount)
approved_writes_funds look r reply writes a (Funds.Account id row) e = record {
  front = _ ∷ _ ∷ _ ∷ [];
  rest = [];
  all = a.writes ∙ ap (λ (f : Funds). approved_writes r a.card (request.spent_by r look) f) e;
  fresh_front = (refl, (refl, (refl, tt)));
  fresh_rest = tt;
}
approved_writes_funds look r reply writes a (Funds.Budget prefix row) e =
    subst (IsFresh 4) (sym (a.writes ∙ ap (λ (f : Funds). approved_writes r a.card (request.spent_by r look) f) e)) (refl, (refl, (refl, (refl, tt))))

request_balances : (id : AccountId) (rows : Rows) (r : Request) (row : Option OriginalRow) → original_at rows (identity_of r.transaction) ≡ row → Balances id rows (Frame.Good (Message.Request r))
unfolding decision
request_balances id rows r None e =
    let ways = subst (λ (o : Option OriginalRow). request.IsDecidedFresh r (map.get rows) (carried_out (on_original r o) (map.get rows))) (sym e) (request.fresh_ways r (map.get rows)) in
    elim ways [
      | inl d ↦
          unmoved _ _ _ (untouched rows _ id (subst (IsFresh 4) (sym d.writes) (refl, tt)))
          (not_answered (is_none (original_at rows (identity_of r.transaction))) _ _ r.transaction.amount (ap (is_answered 0) d.reply ∙ not_zero d.action d.declined))
      | inr a ↦
          let kept = original_stands rows (identity_of r.transaction) _ _ _ a.writes (refl, (refl, (funds_other a.paying, tt))) in
          moved _ _ _ (if is_account id (payer_of a.paying) then r.transaction.amount else 0)
          (taking _ _ r.transaction.amount (balance_of a.paying) (is_account id (payer_of a.paying))
          (balance_before rows a.paying id a.pays.found)
          (own_balance rows _ a.paying _ id (approved_writes_funds (map.get rows) r _ _ a a.paying refl))
          (other_balance rows _ a.paying _ id (approved_writes_funds (map.get rows) r _ _ a a.paying refl)) a.pays.covered)
          (taken_if (is_none (original_at rows (identity_of r.transaction))) _ _ r.transaction.amount (ap (λ (o : Option OriginalRow). is_none o) e) (ap (is_answered 0) a.reply)
          ∙ ap (λ (o : Option OriginalRow). if◌then◌else◌ {A = ℕ} (is_paid_from id o) r.transaction.amount 0) kept)
    ]
request_balances id rows r (Some (OriginalRow.Ahead mark)) e =
    unmoved _ _ _ (untouched rows _ id (subst (λ (o : Option OriginalRow). IsFresh 4 (carried_out (on_original r o) (map.get rows)).writes) (sym e) (either (is_marked mark r.transaction OriginalKind.Request) _ _ (map.get rows) (refl, tt) tt)))
    (nothing_taken (is_none (original_at rows (identity_of r.transaction))) _ r.transaction.amount (ap (λ (o : Option OriginalRow). is_none o) e))
request_balances id rows r (Some (OriginalRow.Kept k)) e =
    unmoved _ _ _ (untouched rows _ id (subst (λ (o : Option OriginalRow). IsFresh 4 (carried_out (on_original r o) (map.get rows)).writes) (sym e) (either (r.repeat && is_of_same k r.transaction OriginalKind.Request) _ _ (map.get rows) tt tt)))
    (nothing_taken (is_none (original_at rows (identity_of r.transaction))) _ r.transaction.amount (ap (λ (o : Option OriginalRow). is_none o) e))

-- ---- advices

accepted_writes_funds : (look : Lookup) (a : Advice) (reply : ReplyBody) (writes : Writes) (w : advice.Accepts a look reply writes) (f : Funds) → w.paying ≡ f → WritesFunds writes f (balance_of f - a.transaction.amount)
accepted_writes_funds look a reply writes w (Funds.Account id row) e = record {
  front = _ ∷ [];
  rest = [];
  all = w.writes ∙ ap (λ (f : Funds). accepted_writes a f) e;
  fresh_front = (refl, tt);
  fresh_rest = tt;
}
accepted_writes_funds look a reply writes w (Funds.Budget prefix row) e =
    subst (IsFresh 4) (sym (w.writes ∙ ap (λ (f : Funds). accepted_writes a f) e)) (refl, (refl, tt))

advice_balances : (id : AccountId) (rows : Rows) (a : Advice) (row : Option OriginalRow) → original_at rows (identity_of a.transaction) ≡ row → Balances id rows (Frame.Good (Message.Advice a))
unfolding decision
advice_balances id rows a None e =
    let ways = subst (λ (o : Option OriginalRow). advice.IsTakenFresh a (map.get rows) (carried_out (advice_on_original a o) (map.get rows))) (sym e) (advice.fresh_ways a (map.get rows)) in
    elim ways [
      | inl d ↦
          unmoved _ _ _ (untouched rows _ id (subst (IsFresh 4) (sym d.writes) (refl, tt)))
          (not_answered (is_none (original_at rows (identity_of a.transaction))) _ _ a.transaction.amount (ap (is_answered 901) d.reply))
      | inr w ↦
          let kept = original_stands rows (identity_of a.transaction) _ _ _ w.writes (funds_other w.paying, tt) in
          moved _ _ _ (if is_account id (payer_of w.paying) then a.transaction.amount else 0)
          (taking _ _ a.transaction.amount (balance_of w.paying) (is_account id (payer_of w.paying))
          (balance_before rows w.paying id w.pays.found)
          (own_balance rows _ w.paying _ id (accepted_writes_funds (map.get rows) a _ _ w w.paying refl))
          (other_balance rows _ w.paying _ id (accepted_writes_funds (map.get rows) a _ _ w w.paying refl)) w.pays.covered)
          (taken_if (is_none (original_at rows (identity_of a.transaction))) _ _ a.transaction.amount (ap (λ (o : Option OriginalRow). is_none o) e) (ap (is_answered 901) w.reply)
          ∙ ap (λ (o : Option OriginalRow). if◌then◌else◌ {A = ℕ} (is_paid_from id o) a.transaction.amount 0) kept)
    ]
advice_balances id rows a (Some (OriginalRow.Ahead mark)) e =
    unmoved _ _ _ (untouched rows _ id (subst (λ (o : Option OriginalRow). IsFresh 4 (carried_out (advice_on_original a o) (map.get rows)).writes) (sym e) (either (is_marked mark a.transaction OriginalKind.Advice) _ _ (map.get rows) (refl, tt) tt)))
    (nothing_taken (is_none (original_at rows (identity_of a.transaction))) _ a.transaction.amount (ap (λ (o : Option OriginalRow). is_none o) e))
advice_balances id rows a (Some (OriginalRow.Kept k)) e =
    unmoved _ _ _ (untouched rows _ id (subst (λ (o : Option OriginalRow). IsFresh 4 (carried_out (advice_on_original a o) (map.get rows)).writes) (sym e) (either (a.repeat && is_of_same k a.transaction OriginalKind.Advice) _ _ (map.get rows) tt tt)))
    (nothing_taken (is_none (original_at rows (identity_of a.transaction))) _ a.transaction.amount (ap (λ (o : Option OriginalRow). is_none o) e))

-- ---- reversals

-- a reversal by which nothing goes back
still : (before after x : ℕ) → after ≡ before → x ≡ 0 → before + x ≡ after + 0
still before after x e f = omega (arith, e, f)

back : (before after x g : ℕ) → before + g ≡ after → x ≡ g → before + x ≡ after + 0
back before after x g e f = omega (arith, e, f)

answer_of : (b : Bool) (n m : ℕ) → b ≡ true → n ≡ m → (if b then n else 0) ≡ m
answer_of b n m e f = ap (λ (x : Bool). if◌then◌else◌ {A = ℕ} x n 0) e ∙ f

none_back : (b : Bool) (n : ℕ) → n ≡ 0 → (if b then n else 0) ≡ 0
none_back true n e = e
none_back false n e = refl

not_400 : (n : ℕ) → n ≢ 400 → (n == 400) ≡ false
not_400 n h = grind (arith, nat_tests)

posted_writes_funds : (rows : Rows) (v : Reversal) (reply : ReplyBody) (writes : Writes) (s : SettlesPosted v (map.get rows) reply writes) (f : Funds) (day : Option VelocityRow) → s.paid ≡ f → s.day ≡ day → WritesFunds writes f (balance_of f + given_back v s.kept)
posted_writes_funds rows v reply writes s (Funds.Account id row) None e d = record {
  front = _ ∷ [];
  rest = [];
  all = s.writes ∙ ap (λ (f : Funds). reversed_original v s.kept ∷ (day_put v s.kept s.day ++ refunded v s.kept f ∷ [])) e ∙ ap (λ (x : Option VelocityRow). reversed_original v s.kept ∷ (day_put v s.kept x ++ refunded v s.kept (Funds.Account id row) ∷ [])) d;
  fresh_front = (refl, tt);
  fresh_rest = tt;
}
posted_writes_funds rows v reply writes s (Funds.Account id row) (Some day) e d = record {
  front = _ ∷ _ ∷ [];
  rest = [];
  all = s.writes ∙ ap (λ (f : Funds). reversed_original v s.kept ∷ (day_put v s.kept s.day ++ refunded v s.kept f ∷ [])) e ∙ ap (λ (x : Option VelocityRow). reversed_original v s.kept ∷ (day_put v s.kept x ++ refunded v s.kept (Funds.Account id row) ∷ [])) d;
  fresh_front = (refl, (refl, tt));
  fresh_rest = tt;
}
posted_writes_funds rows v reply writes s (Funds.Budget prefix row) None e d =
    subst (IsFresh 4) (sym (s.writes ∙ ap (λ (f : Funds). reversed_original v s.kept ∷ (day_put v s.kept s.day ++ refunded v s.kept f ∷ [])) e ∙ ap (λ (x : Option VelocityRow). reversed_original v s.kept ∷ (day_put v s.kept x ++ refunded v s.kept (Funds.Budget prefix row) ∷ [])) d)) (refl, (refl, tt))
posted_writes_funds rows v reply writes s (Funds.Budget prefix row) (Some day) e d =
    subst (IsFresh 4) (sym (s.writes ∙ ap (λ (f : Funds). reversed_original v s.kept ∷ (day_put v s.kept s.day ++ refunded v s.kept f ∷ [])) e ∙ ap (λ (x : Option VelocityRow). reversed_original v s.kept ∷ (day_put v s.kept x ++ refunded v s.kept (Funds.Budget prefix row) ∷ [])) d)) (refl, (refl, (refl, tt)))

-- what goes back of an original that stands there
returned_kept : (id : AccountId) (v : Reversal) (row : Option OriginalRow) (k : KeptOriginal) (n : ℕ) → row ≡ Some (OriginalRow.Kept k) → (if is_none (reversal_of_outcome k.outcome) && is_from_account id k then given_back v k else 0) ≡ n → returned_of id v row ≡ n
returned_kept id v row k n e f = ap (returned_of id v) e ∙ f

reversal_balances : (id : AccountId) (rows : Rows) (v : Reversal) → Balances id rows (Frame.Good (Message.Reversal v))
unfolding decision
reversal_balances id rows v =
    elim (reversal_ways v (map.get rows)) [
      | inl w ↦ still _ _ _ (untouched rows _ id (subst (IsFresh 4) (sym w.writes) tt)) (nothing_if _ _ (ap (is_answered 400) w.reply ∙ not_400 w.action w.refused))
      | inr w1 ↦ elim w1 [
        | inl w ↦ still _ _ _ (untouched rows _ id (subst (IsFresh 4) (sym w.writes) (refl, tt))) (nothing_if _ _ (ap (is_answered 400) w.reply))
        | inr w2 ↦ elim w2 [
          | inl w ↦
              still _ _ _ (untouched rows _ id (subst (IsFresh 4) (sym w.writes) tt))
              (none_back (is_answered 400 (reply_of rows (Frame.Good (Message.Reversal v)))) _ (returned_kept id v _ w.kept 0 w.names.stands (ap (λ (o : Option Identity). if◌then◌else◌ {A = ℕ} (is_none o && is_from_account id w.kept) (given_back v w.kept) 0) w.names.reversal)))
          | inr w3 ↦ elim w3 [
            | inl w ↦
                still _ _ _ (untouched rows _ id (subst (IsFresh 4) (sym w.writes) (refl, tt)))
                (none_back (is_answered 400 (reply_of rows (Frame.Good (Message.Reversal v)))) _ (returned_kept id v _ w.kept 0 w.names.stands
                (ap (λ (o : Option Identity). if◌then◌else◌ {A = ℕ} (is_none o && is_from_account id w.kept) (given_back v w.kept) 0) w.names.reversal
                ∙ ap (λ (p : Option Payment). if◌then◌else◌ {A = ℕ} (account_paid id p) (given_back v w.kept) 0) w.unposted)))
            | inr s ↦
                let funds = posted_writes_funds rows v _ _ s s.paid s.day refl refl in
                back _ _ _ (if is_account id (payer_of s.paid) then given_back v s.kept else 0)
                (giving _ _ (given_back v s.kept) (balance_of s.paid) (is_account id (payer_of s.paid)) (balance_before rows s.paid id s.found) (own_balance rows _ s.paid _ id funds) (other_balance rows _ s.paid _ id funds))
                (answer_of (is_answered 400 (reply_of rows (Frame.Good (Message.Reversal v)))) _ _ (ap (is_answered 400) s.reply) (returned_kept id v _ s.kept _ s.names.stands
                (ap (λ (o : Option Identity). if◌then◌else◌ {A = ℕ} (is_none o && is_from_account id s.kept) (given_back v s.kept) 0) s.names.reversal
                ∙ ap (λ (p : Option Payment). if◌then◌else◌ {A = ℕ} (account_paid id p) (given_back v s.kept) 0) s.posted
                ∙ ap (λ (p : Payer). if◌then◌else◌ {A = ℕ} (is_account id p) (given_back v s.kept) 0) (sym s.payer))))
          ]
        ]
      ]
    ]

-- ---- a batch

balances : (id : AccountId) (rows : Rows) (frame : Frame) → Balances id rows frame
unfolding decision
balances id rows (Frame.Good (Message.Request r)) = request_balances id rows r _ refl
balances id rows (Frame.Good (Message.Advice a)) = advice_balances id rows a _ refl
balances id rows (Frame.Good (Message.Reversal v)) = reversal_balances id rows v
balances id rows (Frame.Bad fault) = refl

pub reconciled : (frames : List Frame) (rows : Rows) (id : AccountId) → IsReconciled rows frames id
reconciled [] rows id = refl
reconciled (frame ∷ frames) rows id =
    let one = balances id rows frame in
    let rest = reconciled frames (rows_after_one rows frame) id in
    omega (arith, one, rest)
