-- Where the rows of a book are.
use Rattle.std.proofs.Common.{◌≡◌, ◌≢◌, ℕ, Bool, true, false, ◌&&◌, ◌||◌, not, List, [], ◌∷◌, Option, Some, None, ◌⊎◌, inl, inr, refl, sym, ap}
use Rattle.std.proofs.lemmas.Bool.{false≢true, and_parts, or_cases, or_left}
use Rattle.std.specs.FinMap as map
use Rattle.issuer_words.specs.Words.{AccountId, CardRow, Frame, OriginalRow, Payer, Payment, RowKey, RowVal, Rows, card_in, original_in, payment_of_outcome}
use Rattle.issuer_laws.specs.Parts.{IsIn, second_key, account_keys, payer_keys, payment_keys, paying_keys, may_need, Parted, bodies, of_part, IsOfPart, HasPart}
use Rattle.parts_books.proofs.Listed.{among_in, in_among, in_either, any_of_part, of_part_any, any_of_bodies, of_bodies_any, within_retained, left_passes, passes_left, same_or_gone}
use Rattle.parts_books.specs.PartBooks.{accounts_of, lent_keys, has_account_at, is_among, is_for, is_for_one, may_need_one, is_of_account, part_rows, rest_rows}
use Rattle.parts_books.specs.Together.{IsOfAccount, HaveTheRows}

-- ---- lent rows are accounts

one_account : (id : AccountId) (k : RowKey) → IsIn k (RowKey.Account id ∷ []) → IsOfAccount k
one_account id k (inl e) = (id, e)
one_account id k (inr h) = absurd h

second_account : (o : Option AccountId) (k : RowKey) → IsIn k (second_key o) → IsOfAccount k
second_account None k h = absurd h
second_account (Some id) k h = one_account id k h

card_account : (o : Option CardRow) (k : RowKey) → IsIn k (account_keys o) → IsOfAccount k
card_account None k h = absurd h
card_account (Some card) k (inl e) = (card.accounts.first, e)
card_account (Some card) k (inr h) = second_account card.accounts.second k h

payer_account : (p : Payer) (k : RowKey) → IsIn k (payer_keys p) → IsOfAccount k
payer_account (Payer.Account id) k h = one_account id k h
payer_account Payer.Budget k h = absurd h

payment_account : (o : Option Payment) (k : RowKey) → IsIn k (payment_keys o) → IsOfAccount k
payment_account None k h = absurd h
payment_account (Some payment) k h = payer_account payment.payer k h

paying_account : (o : Option OriginalRow) (k : RowKey) → IsIn k (paying_keys o) → IsOfAccount k
paying_account None k h = absurd h
paying_account (Some (OriginalRow.Ahead mark)) k h = absurd h
paying_account (Some (OriginalRow.Kept kept)) k h = payment_account (payment_of_outcome kept.outcome) k h

accounts_alone : (o : Option RowVal) (k : RowKey) → IsIn k (accounts_of o) → IsOfAccount k
accounts_alone o k h = elim (in_either k (account_keys (card_in o)) (paying_keys (original_in o)) h) [ inl own ↦ card_account (card_in o) k own | inr paid ↦ paying_account (original_in o) k paid ]

pub lent_account : (rows : Rows) (needs : List RowKey) (k : RowKey) → IsIn k (lent_keys rows needs) → IsOfAccount k
lent_account rows [] k h = absurd h
lent_account rows (n ∷ needs) k h =
    elim (in_either k (accounts_of (map.get rows n)) (lent_keys rows needs) h) [ inl own ↦ accounts_alone (map.get rows n) k own | inr more ↦ lent_account rows needs k more ]

-- ---- the book of a part

-- an account that stands in the book
abbrev pub IsAccountThere : Rows → RowKey → Type 0
IsAccountThere rows k = IsOfAccount k × (has_account_at rows k ≡ true)

-- a row of the part's book is one that the part may need, or an account
pub of_part_or_account : (rows : Rows) (ms : Parted) (p : ℕ) (k : RowKey) → is_for_one rows (of_part p ms) k ≡ true → IsOfPart rows ms p k ⊎ IsAccountThere rows k
of_part_or_account rows ms p k h =
    let one = of_part_any (is_for rows k) p ms h in
    let needs = may_need rows one.0.1 in
    elim (or_cases (is_among k needs) (has_account_at rows k && is_among k (lent_keys rows needs)) one.3) [
      | inl needed ↦ inl (one.0, one.1, one.2, in_among k needs needed)
      | inr lent ↦ let two = and_parts (has_account_at rows k) (is_among k (lent_keys rows needs)) lent in inr (lent_account rows needs k (in_among k (lent_keys rows needs) two.1), two.0)
    ]

pub needed_is_there : (rows : Rows) (ms : Parted) (p : ℕ) (k : RowKey) → IsOfPart rows ms p k → is_for_one rows (of_part p ms) k ≡ true
needed_is_there rows ms p k own =
    any_of_part (is_for rows k) p ms own.0 own.1 own.2
    (or_left (is_among k (may_need rows own.0.1)) (has_account_at rows k && is_among k (lent_keys rows (may_need rows own.0.1))) (among_in k (may_need rows own.0.1) own.3))

-- it is a book of the part
pub has_part : (rows : Rows) (ms : Parted) (p : ℕ) → HasPart rows ms p (part_rows rows ms p)
has_part rows ms p = record {
  needed = λ k own. passes_left rows (is_for_one rows (of_part p ms)) k (needed_is_there rows ms p k own);
  others = λ k. same_or_gone rows (is_for_one rows (of_part p ms)) k;
}

-- ---- the rest

abbrev pub is_left : Rows → List Frame → RowKey → Bool
is_left rows frames k = is_of_account k || not (may_need_one rows frames k)

pub no_need : (rows : Rows) (ms : Parted) (k : RowKey) → ((p : ℕ) → IsOfPart rows ms p k → ⊥) → may_need_one rows (bodies ms) k ≡ false
no_need rows ms k none =
    elim (may_need_one rows (bodies ms) k) as (λ b. may_need_one rows (bodies ms) k ≡ b → b ≡ false) [
      | true ↦ λ some.
          let one = of_bodies_any (λ frame. is_among k (may_need rows frame)) ms some in
          absurd (none one.0.0 (one.0, one.1, refl, in_among k (may_need rows one.0.1) one.2))
      | false ↦ λ _. refl
    ] refl

pub some_need : (rows : Rows) (ms : Parted) (p : ℕ) (k : RowKey) → IsOfPart rows ms p k → may_need_one rows (bodies ms) k ≡ true
some_need rows ms p k own = any_of_bodies (λ frame. is_among k (may_need rows frame)) ms own.0 own.1 (among_in k (may_need rows own.0.1) own.3)

pub is_account_key : (k : RowKey) → is_of_account k ≡ true → IsOfAccount k
is_account_key (RowKey.Account id) h = (id, refl)
is_account_key (RowKey.Card pan) h = absurd (false≢true h)
is_account_key (RowKey.Velocity pan day) h = absurd (false≢true h)
is_account_key (RowKey.Budget prefix) h = absurd (false≢true h)
is_account_key (RowKey.Original identity) h = absurd (false≢true h)

pub account_is_left : (rows : Rows) (frames : List Frame) (k : RowKey) → IsOfAccount k → is_left rows frames k ≡ true
account_is_left rows frames k account = ap (λ (q : RowKey). is_left rows frames q) account.1

needed_account : (a b : Bool) → (a || not b) ≡ true → b ≡ true → a ≡ true
needed_account true b h n = refl
needed_account false true h n = h
needed_account false false h n = absurd (false≢true n)

unneeded_left : (a b : Bool) → b ≡ false → (a || not b) ≡ true
unneeded_left true b h = refl
unneeded_left false true h = sym h
unneeded_left false false h = refl

pub left_in_rest : (rows : Rows) (ms : Parted) (k : RowKey) → ((p : ℕ) → IsOfPart rows ms p k → ⊥) → map.get (rest_rows rows (bodies ms)) k ≡ map.get rows k
left_in_rest rows ms k none = passes_left rows (is_left rows (bodies ms)) k (unneeded_left (is_of_account k) (may_need_one rows (bodies ms) k) (no_need rows ms k none))

-- what a part may need, and the rest has, is an account
pub needed_in_rest : (rows : Rows) (ms : Parted) (p : ℕ) (k : RowKey) → IsOfPart rows ms p k → map.get (rest_rows rows (bodies ms)) k ≢ None → IsOfAccount k
needed_in_rest rows ms p k own there =
    is_account_key k (needed_account (is_of_account k) (may_need_one rows (bodies ms) k) (left_passes rows (is_left rows (bodies ms)) k there) (some_need rows ms p k own))

-- ---- together

pub have_the_rows : (rows : Rows) (ms : Parted) → HaveTheRows rows ms
have_the_rows rows ms = record {
  needed = λ p. (has_part rows ms p).needed;
  left = left_in_rest rows ms;
  of_part = λ p. within_retained rows (is_for_one rows (of_part p ms));
  of_rest = within_retained rows (is_left rows (bodies ms));
  two_parts = λ apart p q k other in_p in_q.
      elim (of_part_or_account rows ms p k (left_passes rows (is_for_one rows (of_part p ms)) k in_p)) [
        | inr account ↦ account.0
        | inl of_p ↦ elim (of_part_or_account rows ms q k (left_passes rows (is_for_one rows (of_part q ms)) k in_q)) [
          | inr account ↦ account.0
          | inl of_q ↦ absurd (apart p q k other of_p of_q)
        ]
      ];
  part_and_rest = λ p k in_p in_rest.
      elim (of_part_or_account rows ms p k (left_passes rows (is_for_one rows (of_part p ms)) k in_p)) [
        | inr account ↦ account.0
        | inl of_p ↦ needed_in_rest rows ms p k of_p in_rest
      ];
}
