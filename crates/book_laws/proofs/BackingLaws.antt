-- Backings over all accounts and prefixes, by what is asked of one row after another.
use Rattle.std.proofs.Common.{◌≡◌, ◌+◌, ◌≤◌, ◌^◌, ◌↔◌, true, false, ◌&&◌, List, [], ◌∷◌, Option, Some, None, if◌then◌else◌, Less, Equal, Greater, IsTrue, IfSome, is_some, ◌⊎◌, inl, inr, sym, ap, refl, ◌∙◌, subst, lit≤, arith}
use Rattle.std.specs.List.{sum_by, list_all, AllByRecursion}
use Rattle.std.proofs.lemmas.Bool.{false≢true, and_parts}
use Rattle.std.proofs.lemmas.List.Sums.{sum_by-cons}
use Rattle.std.proofs.lemmas.Option.{same_Some}
use Rattle.std.specs.FinMap as map
use Rattle.std.specs.Ordering.{is_eq}
use Rattle.issuer_words.specs.Words.{AccountId, Identity, KeptOriginal, PanPrefix, Payer, Payment, RowKey, RowVal, Rows, account_in, account_paid, available_in, backing_of_account, backing_of_prefix, budget_in, budget_paid, is_account, is_from_account, is_from_budget, is_same_account, kept_in, key_cmp, left_in, payment_of_outcome, prefix_of, stay_if, stay_of, stays, text_eq}
use Rattle.issuer_rows.proofs.KeyLaws.{key_cmp_antisymmetric, text_eq_decides}
use Rattle.issuer_rows.proofs.ListedRows.{listed_found}
use Rattle.book_laws.specs.CheckBook.{is_among, has_account, has_payer, is_backed, has_paying_account, have_paying_accounts, IsRowInRange, AreRowsInRange, AreBackingsInRange}
use Rattle.book_laws.specs.declared.paid_from.PaidFrom.{PaidFrom}
use Rattle.book_laws.specs.declared.paid_from.PaidFrom.TheVariants.{Anything}
use Rattle.issuer_rows.specs.declared.payer.Payer.TheVariants as payer
use Rattle.issuer_rows.specs.declared.row_key.RowKey.TheVariants as key
use Rattle.issuer_rows.specs.declared.row_val.RowVal.TheVariants as val

-- what stays of an original counts at most once
stay_le : (paid : PaidFrom) (k : Option KeptOriginal) → stay_if (is_among paid) k ≤ stay_if (is_among Anything) k
stay_le paid None = omega arith
stay_le paid (Some k) = elim (is_among paid k) as (λ b. (if b then stay_of k else 0) ≤ stay_of k) [ true ↦ omega arith | false ↦ omega arith ]

sum_le : (paid : PaidFrom) (rows : List (RowKey × RowVal)) → sum_by (λ row. stay_if (is_among paid) (kept_in row.0 row.1)) rows ≤ sum_by (λ row. stay_if (is_among Anything) (kept_in row.0 row.1)) rows
sum_le paid [] = omega arith
sum_le paid (row ∷ rows) =
    rw (sum_by-cons (λ (row : RowKey × RowVal). stay_if (is_among paid) (kept_in row.0 row.1)) row rows, sum_by-cons (λ (row : RowKey × RowVal). stay_if (is_among Anything) (kept_in row.0 row.1)) row rows)
    (omega (arith, stay_le paid (kept_in row.0 row.1), sum_le paid rows))

-- no more stays of some originals than of all
pub stays_le : (paid : PaidFrom) (rows : Rows) → stays (is_among paid) rows ≤ stays (is_among Anything) rows
stays_le paid rows = sum_le paid (map.entries rows)

-- what holds of each row holds of a key and the value that is found there
at_key : (P : RowKey → RowVal → Type 0) (q : RowKey) (v : RowVal) (es : List (RowKey × RowVal)) → AllByRecursion (λ row. P row.0 row.1) es → map.find key_cmp q es ≡ Some v → P q v
at_key P q v [] h e = absurd (cc)
at_key P q v (row ∷ es) h e =
    elim (key_cmp q row.0) as (λ r. key_cmp q row.0 ≡ r → (if is_eq r then Some row.1 else map.find key_cmp q es) ≡ Some v → P q v) [
      | Less ↦ λ _ found. at_key P q v es h.1 found
      | Equal ↦ λ tie found. subst (λ k. P k v) (sym (key_cmp_antisymmetric q row.0 tie)) (subst (λ x. P row.0 x) (same_Some _ _ found) h.0)
      | Greater ↦ λ _ found. at_key P q v es h.1 found
    ] refl e

-- what holds of each row holds of a key that has a value
pub found_in : (P : RowKey → RowVal → Type 0) (rows : Rows) (q : RowKey) (v : RowVal) → AllByRecursion (λ row. P row.0 row.1) (map.entries rows) → map.get rows q ≡ Some v → P q v
found_in P rows q v h e = at_key P q v (map.entries rows) h (sym (map.get-entries rows q) ∙ e)

-- an account without a row is no payer, where the payers' accounts have rows
not_payer : (rows : Rows) (id : AccountId) (p : Payer) → map.get rows (key.Account id) ≡ None → has_payer rows p ≡ true → is_account id p ≡ false
not_payer rows id (payer.Account paid) e h =
    elim (is_same_account paid id) as (λ b. is_same_account paid id ≡ b → b ≡ false) [
      | true ↦ λ same.
          let text : paid.0 ≡ id.0 = (text_eq_decides paid.0 id.0).0 same in
          let same_id : paid ≡ id = (λ i. record { 0 = text i }) in
          let absent : has_account rows paid ≡ false = ap (has_account rows) same_id ∙ ap (λ o. is_some (account_in o)) e in absurd (false≢true (sym absent ∙ h))
      | false ↦ λ _. refl
    ] refl
not_payer rows id payer.Budget e h = refl

not_paid : (rows : Rows) (id : AccountId) (p : Option Payment) → map.get rows (key.Account id) ≡ None → is_backed rows p ≡ true → account_paid id p ≡ false
not_paid rows id None e h = refl
not_paid rows id (Some payment) e h = not_payer rows id payment.payer e h

no_stay : (rows : Rows) (id : AccountId) (identity : Identity) (v : RowVal) → map.get rows (key.Account id) ≡ None → has_paying_account rows v ≡ true → stay_if (is_from_account id) (kept_in (key.Original identity) v) ≡ 0
no_stay rows id identity (val.Card row) e h = refl
no_stay rows id identity (val.Velocity row) e h = refl
no_stay rows id identity (val.Budget row) e h = refl
no_stay rows id identity (val.Kept k) e h = ap (λ b. if b then stay_of k else 0) (not_paid rows id (payment_of_outcome k.outcome) e h)
no_stay rows id identity (val.Ahead mark) e h = refl
no_stay rows id identity (val.Account row) e h = refl

no_stay_of : (rows : Rows) (id : AccountId) (k : RowKey) (v : RowVal) → map.get rows (key.Account id) ≡ None → has_paying_account rows v ≡ true → stay_if (is_from_account id) (kept_in k v) ≡ 0
no_stay_of rows id (key.Card pan) v e h = refl
no_stay_of rows id (key.Velocity pan day) v e h = refl
no_stay_of rows id (key.Budget prefix) v e h = refl
no_stay_of rows id (key.Original identity) v e h = no_stay rows id identity v e h
no_stay_of rows id (key.Account other) v e h = refl

no_stays : (rows : Rows) (id : AccountId) (es : List (RowKey × RowVal)) → map.get rows (key.Account id) ≡ None → list_all (λ row. has_paying_account rows row.1) es ≡ true → sum_by (λ row. stay_if (is_from_account id) (kept_in row.0 row.1)) es ≡ 0
no_stays rows id [] e h = refl
no_stays rows id (row ∷ es) e h =
    let both = and_parts (has_paying_account rows row.1) (list_all (λ row. has_paying_account rows row.1) es) h in
    sum_by-cons (λ (row : RowKey × RowVal). stay_if (is_from_account id) (kept_in row.0 row.1)) row es
    ∙ (λ i. no_stay_of rows id row.0 row.1 e both.0 i + no_stays rows id es e both.1 i)

account_in_range : (rows : Rows) (id : AccountId) → IsTrue (have_paying_accounts rows) → AreRowsInRange rows (map.entries rows) → backing_of_account rows id ≤ 10 ^ 15
account_in_range rows id payers h =
    elim (map.get rows (key.Account id)) as (λ o. map.get rows (key.Account id) ≡ o → backing_of_account rows id ≤ 10 ^ 15) [
      | None ↦ λ absent. rw (absent, no_stays rows id (map.entries rows) absent payers) (lit≤ tt)
      | Some v ↦ λ found. rw found (found_in (IsRowInRange rows) rows (key.Account id) v h found)
    ] refl

-- nothing stays paid of an original from the budget of this prefix, or all that stays so is in range
zero_or_bounded : (rows : Rows) (prefix : PanPrefix) (o : Option KeptOriginal) → IfSome o (λ k. IsTrue (budget_paid (payment_of_outcome k.outcome)) → stays (is_from_budget (prefix_of k.card)) rows ≤ 10 ^ 15) → (stay_if (is_from_budget prefix) o ≡ 0) ⊎ (stays (is_from_budget prefix) rows ≤ 10 ^ 15)
zero_or_bounded rows prefix None h = inl refl
zero_or_bounded rows prefix (Some k) h =
    elim (budget_paid (payment_of_outcome k.outcome)) as (λ b. budget_paid (payment_of_outcome k.outcome) ≡ b → ((if b && text_eq (prefix_of k.card).0 prefix.0 then stay_of k else 0) ≡ 0) ⊎ (stays (is_from_budget prefix) rows ≤ 10 ^ 15)) [
      | true ↦ λ paid.
          elim (text_eq (prefix_of k.card).0 prefix.0) as (λ b. text_eq (prefix_of k.card).0 prefix.0 ≡ b → ((if b then stay_of k else 0) ≡ 0) ⊎ (stays (is_from_budget prefix) rows ≤ 10 ^ 15)) [
            | true ↦ λ same.
                let text : (prefix_of k.card).0 ≡ prefix.0 = (text_eq_decides (prefix_of k.card).0 prefix.0).0 same in
                let same_prefix : prefix_of k.card ≡ prefix = (λ i. record { 0 = text i }) in inr (subst (λ p. stays (is_from_budget p) rows ≤ 10 ^ 15) same_prefix (h paid))
            | false ↦ λ _. inl refl
          ] refl
      | false ↦ λ _. inl refl
    ] refl

row_zero_or_bounded : (rows : Rows) (prefix : PanPrefix) (k : RowKey) (v : RowVal) → IsRowInRange rows k v → (stay_if (is_from_budget prefix) (kept_in k v) ≡ 0) ⊎ (stays (is_from_budget prefix) rows ≤ 10 ^ 15)
row_zero_or_bounded rows prefix (key.Card pan) v h = inl refl
row_zero_or_bounded rows prefix (key.Velocity pan day) v h = inl refl
row_zero_or_bounded rows prefix (key.Budget other) v h = inl refl
row_zero_or_bounded rows prefix (key.Original identity) v h = zero_or_bounded rows prefix (kept_in (key.Original identity) v) h
row_zero_or_bounded rows prefix (key.Account id) v h = inl refl

all_zero_or_bounded : (rows : Rows) (prefix : PanPrefix) (es : List (RowKey × RowVal)) → AreRowsInRange rows es → (sum_by (λ row. stay_if (is_from_budget prefix) (kept_in row.0 row.1)) es ≡ 0) ⊎ (stays (is_from_budget prefix) rows ≤ 10 ^ 15)
all_zero_or_bounded rows prefix [] h = inl refl
all_zero_or_bounded rows prefix (row ∷ es) h =
    elim (row_zero_or_bounded rows prefix row.0 row.1 h.0) [
      | inl first ↦ elim (all_zero_or_bounded rows prefix es h.1) [
        | inl rest ↦ inl (sum_by-cons (λ (row : RowKey × RowVal). stay_if (is_from_budget prefix) (kept_in row.0 row.1)) row es ∙ (λ i. first i + rest i))
        | inr bounded ↦ inr bounded
      ]
      | inr bounded ↦ inr bounded
    ]

prefix_in_range : (rows : Rows) (prefix : PanPrefix) → AreRowsInRange rows (map.entries rows) → backing_of_prefix rows prefix ≤ 10 ^ 15
prefix_in_range rows prefix h =
    elim (map.get rows (key.Budget prefix)) as (λ o. map.get rows (key.Budget prefix) ≡ o → backing_of_prefix rows prefix ≤ 10 ^ 15) [
      | None ↦ λ absent. elim (all_zero_or_bounded rows prefix (map.entries rows) h) [
        | inl nothing ↦ rw (absent, nothing) (lit≤ tt)
        | inr bounded ↦ rw absent (omega (arith, bounded))
      ]
      | Some v ↦ λ found. rw found (found_in (IsRowInRange rows) rows (key.Budget prefix) v h found)
    ] refl

stays_in_range : (rows : Rows) (o : Option KeptOriginal) → ((prefix : PanPrefix) → backing_of_prefix rows prefix ≤ 10 ^ 15) → IfSome o (λ k. IsTrue (budget_paid (payment_of_outcome k.outcome)) → stays (is_from_budget (prefix_of k.card)) rows ≤ 10 ^ 15)
stays_in_range rows None h = tt
stays_in_range rows (Some k) h = λ _. omega (arith, h (prefix_of k.card))

row_in_range : (rows : Rows) (k : RowKey) (v : RowVal) → AreBackingsInRange rows → map.get rows k ≡ Some v → IsRowInRange rows k v
row_in_range rows (key.Card pan) v h there = tt
row_in_range rows (key.Velocity pan day) v h there = tt
row_in_range rows (key.Budget prefix) v h there = subst (λ (o : Option RowVal). left_in (budget_in o) + stays (is_from_budget prefix) rows ≤ 10 ^ 15) there (h.1 prefix)
row_in_range rows (key.Original identity) v h there = stays_in_range rows (kept_in (key.Original identity) v) h.1
row_in_range rows (key.Account id) v h there = subst (λ (o : Option RowVal). available_in (account_in o) + stays (is_from_account id) rows ≤ 10 ^ 15) there (h.0 id)

rows_in_range : (rows : Rows) (es : List (RowKey × RowVal)) → AreBackingsInRange rows → AllByRecursion (λ row. map.get rows row.0 ≡ Some row.1) es → AreRowsInRange rows es
rows_in_range rows [] h there = tt
rows_in_range rows (row ∷ es) h there = (row_in_range rows row.0 row.1 h there.0, rows_in_range rows es h there.1)

-- all backings are in range exactly where each row is
pub backings_by_rows : (rows : Rows) → IsTrue (have_paying_accounts rows) → AreRowsInRange rows (map.entries rows) ↔ AreBackingsInRange rows
backings_by_rows rows payers = (λ h. ((λ id. account_in_range rows id payers h), (λ prefix. prefix_in_range rows prefix h)), λ h. rows_in_range rows (map.entries rows) h (listed_found rows))
