-- Parts that are decided alone, put together: the whole batch.
use Rattle.std.proofs.Common.{◌≡◌, ◌≢◌, ℕ, zero, suc, ◌+◌, ◌<◌, ◌≤◌, ◌==◌, Bool, true, false, not, cond, if◌then◌else◌, List, [], ◌∷◌, ◌++◌, map, Option, Some, None, is_some, ◌⊎◌, inl, inr, refl, sym, ap, ◌∙◌, subst, arith}
use Rattle.std.proofs.lemmas.Bool.{false≢true, and_parts, eqb-true, and_from, cases_lt}
use Rattle.std.proofs.lemmas.Bool.Decides.{nat_tests}
use Rattle.std.proofs.lemmas.List.{length-map}
use Rattle.std.proofs.lemmas.Option.{none-some}
use Rattle.std.specs.FinMap as finite
use Rattle.std.specs.List.{AllByRecursion}
use Rattle.issuer_rows.proofs.KeyLaws.{key_cmp_total, key_cmp_antisymmetric}
use Rattle.issuer_words.specs.Words.{AccountRow, Frame, Identity, Message, Pan, RowKey, RowVal, Rows, Transaction, Writes, account_in, card_in, is_same_currency, original_in, overlay, prefix_of, replies_to, rows_after, rows_after_one, writes_of}
use Rattle.issuer_laws.proofs.Keys.{get-put, get-other, same_or_other, same_text, texts_same}
use Rattle.issuer_laws.proofs.Parts.{decided_alone, leaves_others}
use Rattle.issuer_laws.specs.Parts.{IsIn, account_keys, accounts_at, budget_at, funds_at, if_there, may_need, may_need_first, payer_at, paying_keys, Parted, bodies, of_part, with_parts, IsOfPart, AreApart}
use Rattle.book_changes.proofs.Splitting.{get_retained}
use Rattle.engine_parts.proofs.JoinLaws.{get_joined}
use Rattle.engine_parts.proofs.PartLaws.{of_or_not, others_stay}
use Rattle.engine_parts.specs.Decided.{list_at}
use Rattle.engine_parts.specs.TwoBooks.{first_of, joined, joined_all}
use Rattle.parts_books.proofs.Listed.{in_front, in_back, in_either, passes_left, same_or_gone}
use Rattle.parts_books.proofs.Places.{account_is_left, has_part, is_left, left_in_rest, of_part_or_account}
use Rattle.parts_books.specs.PartBooks.{each_from, each_part, is_as_in_rest, is_for_one, is_same_account_row, joined_books, own_rows, part_replies, part_rows, part_rows_after, rest_rows}
use Rattle.parts_books.specs.Together.{MakeTheWhole}
use Rattle.engine_parts.proofs.WholeLaws.{below_in}
use Rattle.issuer_fold.proofs.FoldLaws.{length-replies_to}

-- ---- a part's book asks for no more than the book

-- a row is as in the book, or not there
abbrev IsPartOf : Rows → Rows → Type 0
IsPartOf book rows = (k : RowKey) → (finite.get book k ≡ finite.get rows k) ⊎ (finite.get book k ≡ None)

each_side : {A : Type 0} (x : A) (xs ys us vs : List A) → (IsIn x xs → IsIn x us) → (IsIn x ys → IsIn x vs) → IsIn x (xs ++ ys) → IsIn x (us ++ vs)
each_side x xs ys us vs f g h = elim (in_either x xs ys h) [ inl one ↦ in_front x us vs (f one) | inr two ↦ in_back x us vs (g two) ]

fewer_accounts : (book rows : Rows) → IsPartOf book rows → (pan : Pan) (k : RowKey) → IsIn k (accounts_at book pan) → IsIn k (accounts_at rows pan)
fewer_accounts book rows part pan k h =
    elim (part (RowKey.Card pan)) [
      | inl same ↦ subst (λ (o : Option RowVal). IsIn k (account_keys (card_in o))) same h
      | inr gone ↦ absurd (subst (λ (o : Option RowVal). IsIn k (account_keys (card_in o))) gone h)
    ]

no_fewer_budget : (book rows : Rows) → IsPartOf book rows → (pan : Pan) (k : RowKey) → IsIn k (budget_at book pan) → IsIn k (budget_at rows pan)
no_fewer_budget book rows part pan k h =
    let budget = RowKey.Budget (prefix_of pan) in
    elim (part budget) [
      | inl same ↦ subst (λ (o : Option RowVal). IsIn k (if_there budget o)) same h
      | inr gone ↦ absurd (subst (λ (o : Option RowVal). IsIn k (if_there budget o)) gone h)
    ]

fewer_payers : (book rows : Rows) → IsPartOf book rows → (identity : Identity) (k : RowKey) → IsIn k (payer_at book identity) → IsIn k (payer_at rows identity)
fewer_payers book rows part identity k h =
    elim (part (RowKey.Original identity)) [
      | inl same ↦ subst (λ (o : Option RowVal). IsIn k (paying_keys (original_in o))) same h
      | inr gone ↦ absurd (subst (λ (o : Option RowVal). IsIn k (paying_keys (original_in o))) gone h)
    ]

fewer_funds : (book rows : Rows) → IsPartOf book rows → (pan : Pan) (k : RowKey) → IsIn k (funds_at book pan) → IsIn k (funds_at rows pan)
fewer_funds book rows part pan k = each_side k (accounts_at book pan) (budget_at book pan) (accounts_at rows pan) (budget_at rows pan) (fewer_accounts book rows part pan k) (no_fewer_budget book rows part pan k)

fewer_first : (book rows : Rows) → IsPartOf book rows → (t : Transaction) (k : RowKey) → IsIn k (may_need_first book t) → IsIn k (may_need_first rows t)
fewer_first book rows part t k (inl e) = inl e
fewer_first book rows part t k (inr (inl e)) = inr (inl e)
fewer_first book rows part t k (inr (inr h)) = inr (inr (fewer_funds book rows part t.pan k h))

fewer_needs : (book rows : Rows) → IsPartOf book rows → (frame : Frame) (k : RowKey) → IsIn k (may_need book frame) → IsIn k (may_need rows frame)
fewer_needs book rows part (Frame.Good (Message.Request r)) k (inl e) = inl e
fewer_needs book rows part (Frame.Good (Message.Request r)) k (inr h) = inr (fewer_first book rows part r.transaction k h)
fewer_needs book rows part (Frame.Good (Message.Advice a)) k h = fewer_first book rows part a.transaction k h
fewer_needs book rows part (Frame.Good (Message.Reversal v)) k (inl e) = inl e
fewer_needs book rows part (Frame.Good (Message.Reversal v)) k (inr (inl e)) = inr (inl e)
fewer_needs book rows part (Frame.Good (Message.Reversal v)) k (inr (inr h)) =
    inr (inr (each_side k (payer_at book v.original.identity) (funds_at book v.transaction.pan) (payer_at rows v.original.identity) (funds_at rows v.transaction.pan)
    (fewer_payers book rows part v.original.identity k) (fewer_funds book rows part v.transaction.pan k) h))
fewer_needs book rows part (Frame.Bad fault) k h = absurd h

-- a row that the part doesn't need stays as it is in its book
pub guest_stays : (rows : Rows) (ms : Parted) (p : ℕ) (k : RowKey) → (IsOfPart rows ms p k → ⊥) → finite.get (part_rows_after rows ms p) k ≡ finite.get (part_rows rows ms p) k
guest_stays rows ms p k none =
    others_stay (part_rows rows ms p) ms p k (λ own. none (own.0, own.1, own.2, fewer_needs (part_rows rows ms p) rows (has_part rows ms p).others own.0.1 k own.3))

-- ---- what a part brings

same_account : (o : Option AccountRow) → is_some o ≡ true → is_same_account_row o o ≡ true
same_account None h = absurd (false≢true h)
same_account (Some row) h = and_from (row.available == row.available) (is_same_currency row.currency row.currency) (grind (arith, nat_tests)) (same_text row.currency.0)

as_in_rest : (rest book : Rows) (k : RowKey) (o : Option RowVal) → finite.get rest k ≡ o → finite.get book k ≡ o → is_some (account_in o) ≡ true → is_as_in_rest rest book k ≡ true
as_in_rest rest book k o in_rest in_book account =
    (λ i. is_same_account_row (account_in (in_rest i)) (account_in (in_book i))) ∙ same_account (account_in o) account

get_own : (rest book : Rows) (k : RowKey) → finite.get (own_rows rest book) k ≡ cond (not (is_as_in_rest rest book k)) (finite.get book k) None
get_own rest book k = get_retained book (λ q. not (is_as_in_rest rest book q)) k

none_own : (b : Bool) (o : Option RowVal) → o ≡ None → cond b o None ≡ None
none_own true o h = h
none_own false o h = refl

-- a row that it doesn't need isn't brought
guest_brings : (rows : Rows) (ms : Parted) (p : ℕ) (k : RowKey) → (IsOfPart rows ms p k → ⊥) → finite.get (own_rows (rest_rows rows (bodies ms)) (part_rows_after rows ms p)) k ≡ None
guest_brings rows ms p k none =
    let rest = rest_rows rows (bodies ms) in
    let after = part_rows_after rows ms p in
    let stays = guest_stays rows ms p k none in
    let test = is_for_one rows (of_part p ms) in
    get_own rest after k ∙ elim (test k) as (λ b. test k ≡ b → cond (not (is_as_in_rest rest after k)) (finite.get after k) None ≡ None) [
      | false ↦ λ out. none_own (not (is_as_in_rest rest after k)) (finite.get after k) (stays ∙ get_retained rows test k ∙ ap (λ (b : Bool). cond b (finite.get rows k) None) out)
      | true ↦ λ own. elim (of_part_or_account rows ms p k own) [
        | inl of_p ↦ absurd (none of_p)
        | inr account ↦
            let same = as_in_rest rest after k (finite.get rows k) (passes_left rows (is_left rows (bodies ms)) k (account_is_left rows (bodies ms) k account.0)) (stays ∙ passes_left rows test k own) account.1 in
            ap (λ (b : Bool). cond (not b) (finite.get after k) None) same
      ]
    ] refl

-- ---- the same account

same_account_row : (one other : AccountRow) → is_same_account_row (Some one) (Some other) ≡ true → one ≡ other
same_account_row one other h =
    let two = and_parts (one.available == other.available) (is_same_currency one.currency other.currency) h in
    let money = eqb-true one.available other.available two.0 in
    let currency = texts_same one.currency.0 other.currency.0 two.1 in
    λ i. record { available = money i; currency = record { 0 = currency i } }

same_value : (one other : Option RowVal) → is_same_account_row (account_in one) (account_in other) ≡ true → one ≡ other
same_value None other h = absurd (false≢true h)
same_value (Some (RowVal.Card row)) other h = absurd (false≢true h)
same_value (Some (RowVal.Velocity row)) other h = absurd (false≢true h)
same_value (Some (RowVal.Budget row)) other h = absurd (false≢true h)
same_value (Some (RowVal.Kept k)) other h = absurd (false≢true h)
same_value (Some (RowVal.Ahead mark)) other h = absurd (false≢true h)
same_value (Some (RowVal.Account row)) None h = absurd (false≢true h)
same_value (Some (RowVal.Account row)) (Some (RowVal.Card theirs)) h = absurd (false≢true h)
same_value (Some (RowVal.Account row)) (Some (RowVal.Velocity theirs)) h = absurd (false≢true h)
same_value (Some (RowVal.Account row)) (Some (RowVal.Budget theirs)) h = absurd (false≢true h)
same_value (Some (RowVal.Account row)) (Some (RowVal.Kept theirs)) h = absurd (false≢true h)
same_value (Some (RowVal.Account row)) (Some (RowVal.Ahead theirs)) h = absurd (false≢true h)
same_value (Some (RowVal.Account row)) (Some (RowVal.Account theirs)) h = ap (λ (r : AccountRow). Some (RowVal.Account r)) (same_account_row row theirs h)

-- ---- no row goes

still_written : (rows : Rows) (ws : Writes) (k : RowKey) → finite.get rows k ≢ None → finite.get (overlay rows ws) k ≢ None
still_written rows [] k there = there
still_written rows (w ∷ ws) k there =
    still_written (finite.insert rows w.0 w.1) ws k
    (elim (same_or_other k w.0) [
      | inl same ↦ λ none. none-some w.1 (sym none ∙ ap (finite.get (finite.insert rows w.0 w.1)) same ∙ get-put rows w.0 w.1)
      | inr apart ↦ λ none. there (sym (get-other rows w.0 w.1 k apart) ∙ none)
    ])

pub still_there : (rows : Rows) (frames : List Frame) (k : RowKey) → finite.get rows k ≢ None → finite.get (rows_after rows frames) k ≢ None
still_there rows [] k there = there
still_there rows (f ∷ frames) k there = still_there (rows_after_one rows f) frames k (still_written rows (writes_of rows f) k there)

-- what the rest has, and the whole book behind has none of, isn't there
none_of_rest : (rows : Rows) (ms : Parted) (k : RowKey) → finite.get (rows_after rows (bodies ms)) k ≡ None → finite.get (rest_rows rows (bodies ms)) k ≡ None
none_of_rest rows ms k none =
    elim (same_or_gone rows (is_left rows (bodies ms)) k) [
      | inr gone ↦ gone
      | inl same ↦ same ∙ elim (finite.get rows k) as (λ o. finite.get rows k ≡ o → o ≡ None) [
        | None ↦ λ _. refl
        | Some v ↦ λ there. absurd (still_there rows (bodies ms) k (λ gone. none-some v (sym gone ∙ there)) none)
      ] refl
    ]

-- ---- the whole book

abbrev whole_at : Rows → Parted → RowKey → Option RowVal
whole_at rows ms k = finite.get (rows_after rows (bodies ms)) k

abbrev rest_at : Rows → Parted → RowKey → Option RowVal
rest_at rows ms k = finite.get (rest_rows rows (bodies ms)) k

-- a row is that behind the whole batch, or that of the rest, and then it is of no part but one of so many from one number on
abbrev IsMerged : Rows → Parted → ℕ → ℕ → Rows → RowKey → Type 0
IsMerged rows ms from count book k =
    (finite.get book k ≡ whole_at rows ms k)
    ⊎ ((finite.get book k ≡ rest_at rows ms k) × ((p : ℕ) → IsOfPart rows ms p k → (from ≤ p) × (p < from + count)))

abbrev brought : Rows → Parted → ℕ → Rows
brought rows ms p = own_rows (rest_rows rows (bodies ms)) (part_rows_after rows ms p)

get_brought : (rows : Rows) (ms : Parted) (p : ℕ) (book : Rows) (k : RowKey) → finite.get (joined book (brought rows ms p)) k ≡ first_of (finite.get (brought rows ms p) k) (finite.get book k)
get_brought rows ms p book k = get_joined book (brought rows ms p) k

-- what a part brings of a row that it needs
need_brings : (rows : Rows) (ms : Parted) → AreApart rows ms → (p : ℕ) (k : RowKey) → IsOfPart rows ms p k → finite.get (brought rows ms p) k ≡ cond (not (is_same_account_row (account_in (rest_at rows ms k)) (account_in (whole_at rows ms k)))) (whole_at rows ms k) None
need_brings rows ms apart p k own =
    let after = part_rows_after rows ms p in
    let whole = (decided_alone rows ms p (part_rows rows ms p) apart (has_part rows ms p)).needed k own in
    get_own (rest_rows rows (bodies ms)) after k
    ∙ ap (λ (o : Option RowVal). cond (not (is_same_account_row (account_in (rest_at rows ms k)) (account_in o))) o None) whole

over_whole : (b : Bool) (whole : Option RowVal) → first_of (cond b whole None) whole ≡ whole
over_whole true None = refl
over_whole true (Some v) = refl
over_whole false whole = refl

over_rest : (same : Bool) (whole rest : Option RowVal) → (same ≡ true → rest ≡ whole) → (whole ≡ None → rest ≡ None) → first_of (cond (not same) whole None) rest ≡ whole
over_rest true whole rest as_it gone = as_it refl
over_rest false None rest as_it gone = gone refl
over_rest false (Some v) rest as_it gone = refl

one_merged : (rows : Rows) (ms : Parted) → AreApart rows ms → (from count : ℕ) (book : Rows) (k : RowKey) → IsMerged rows ms from (suc count) book k → IsMerged rows ms (suc from) count (joined book (brought rows ms from)) k
one_merged rows ms apart from count book k so =
    let whole = whole_at rows ms k in
    let rest = rest_at rows ms k in
    let same = is_same_account_row (account_in rest) (account_in whole) in
    elim (of_or_not rows ms from k) [
      | inl own ↦ elim so [
        | inl done ↦ inl (get_brought rows ms from book k ∙ (λ i. first_of (need_brings rows ms apart from k own i) (done i)) ∙ over_whole (not same) whole)
        | inr left ↦ inl (get_brought rows ms from book k ∙ (λ i. first_of (need_brings rows ms apart from k own i) (left.0 i)) ∙ over_rest same whole rest (same_value rest whole) (none_of_rest rows ms k))
      ]
      | inr other ↦
          let stays : finite.get (joined book (brought rows ms from)) k ≡ finite.get book k
          = get_brought rows ms from book k ∙ ap (λ (o : Option RowVal). first_of o (finite.get book k)) (guest_brings rows ms from k other) in
          elim so [
            | inl done ↦ inl (stays ∙ done)
            | inr left ↦ inr (
              stays ∙ left.0,
              λ p of_p.
                  let range = left.1 p of_p in
                  let low : from ≤ p = range.0 in
                  let high : p < from + suc count = range.1 in
                  let apart_from : p ≢ from = λ e. other (subst (λ (q : ℕ). IsOfPart rows ms q k) e of_p) in
                  (omega arith, omega arith),
            )
          ]
    ]

all_merged : (rows : Rows) (ms : Parted) → AreApart rows ms → (count from : ℕ) (book : Rows) (k : RowKey) → IsMerged rows ms from count book k
    → finite.get (joined_all book (map (own_rows (rest_rows rows (bodies ms))) (each_from (part_rows_after rows ms) from count))) k ≡ whole_at rows ms k
all_merged rows ms apart zero from book k so =
    elim so [
      | inl done ↦ done
      | inr left ↦
          let none : (p : ℕ) → IsOfPart rows ms p k → ⊥ = λ p of_p. (let range = left.1 p of_p in let low : from ≤ p = range.0 in let high : p < from + 0 = range.1 in absurd (omega arith)) in
          left.0 ∙ left_in_rest rows ms k none ∙ sym (leaves_others rows ms k none)
    ]
all_merged rows ms apart (suc count) from book k so = all_merged rows ms apart count (suc from) (joined book (brought rows ms from)) k (one_merged rows ms apart from count book k so)

whole_book : (rows : Rows) (ms : Parted) (count : ℕ) → AreApart rows ms → AllByRecursion (λ (m : ℕ × Frame). m.0 < count) ms → joined_books (rest_rows rows (bodies ms)) (each_part (part_rows_after rows ms) count) ≡ rows_after rows (bodies ms)
whole_book rows ms count apart below =
    finite.same_map key_cmp_total key_cmp_antisymmetric _ _ (λ k.
    all_merged rows ms apart count 0 (rest_rows rows (bodies ms)) k
    (inr (refl, λ p of_p. (let high : p < count = subst (λ (q : ℕ). q < count) of_p.2 (below_in count ms below of_p.0 of_p.1) in (omega arith, omega arith)))))

-- ---- all replies

listed : {A : Type 0} (of : ℕ → List A) (count from p : ℕ) → p < count → list_at (each_from of from count) p ≡ of (from + p)
listed of zero from p h = absurd (omega (arith, h))
listed of (suc count) from zero h = ap of (omega arith)
listed of (suc count) from (suc p) h = listed of count (suc from) p (omega (arith, h)) ∙ ap of (omega arith)

not_listed : {A : Type 0} (of : ℕ → List A) (count from p : ℕ) → count ≤ p → list_at (each_from of from count) p ≡ []
not_listed of zero from p h = refl
not_listed of (suc count) from zero h = absurd (omega (arith, h))
not_listed of (suc count) from (suc p) h = not_listed of count (suc from) p (omega (arith, h))

-- a part above has no messages
none_above : (count p : ℕ) (ms : Parted) → count ≤ p → AllByRecursion (λ (m : ℕ × Frame). m.0 < count) ms → of_part p ms ≡ []
none_above count p [] high below = refl
none_above count p (m ∷ ms) high below =
    elim (m.0 == p) as (λ b. (m.0 == p) ≡ b → (if b then m.1 ∷ of_part p ms else of_part p ms) ≡ []) [
      | true ↦ λ e. absurd (let low = below.0 in grind (arith, nat_tests))
      | false ↦ λ _. none_above count p ms high below.1
    ] refl

-- a part's list is what belongs to it
own_replies : (rows : Rows) (ms : Parted) (count : ℕ) → AreApart rows ms → AllByRecursion (λ (m : ℕ × Frame). m.0 < count) ms → (p : ℕ)
    → list_at (each_part (part_replies rows ms) count) p ≡ of_part p (with_parts ms (replies_to rows (bodies ms)))
own_replies rows ms count apart below p =
    let alone : part_replies rows ms p ≡ of_part p (with_parts ms (replies_to rows (bodies ms))) = (decided_alone rows ms p (part_rows rows ms p) apart (has_part rows ms p)).replies in
    elim (cases_lt p count) [
      | inl low ↦ listed (part_replies rows ms) count 0 p low ∙ ap (part_replies rows ms) (from_zero p) ∙ alone
      | inr high ↦ not_listed (part_replies rows ms) count 0 p high ∙ sym (ap (replies_to (part_rows rows ms p)) (none_above count p ms high below)) ∙ alone
    ]
  where
    from_zero : (p : ℕ) → 0 + p ≡ p
    from_zero p = omega arith

pub the_whole : (rows : Rows) (ms : Parted) (count : ℕ) → MakeTheWhole rows ms count
the_whole rows ms count apart below = record {
  replies = record {
    each = length-replies_to rows (bodies ms) ∙ length-map ms (λ (m : ℕ × Frame). m.1) ∙ sym (length-map ms (λ (m : ℕ × Frame). m.0));
    own = own_replies rows ms count apart below;
  };
  book = whole_book rows ms count apart below;
}
