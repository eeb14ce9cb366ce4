-- What each row adds to the backing of an account or a prefix, and the backing after rows are written.
use Rattle.std.proofs.Common.{◌≡◌, ℕ, ◌+◌, Bool, true, false, if◌then◌else◌, ◌==◌, not, [], ◌∷◌, Option, Some, IsTrue, refl, sym, ap, ◌∙◌, arith}
use Rattle.std.proofs.lemmas.Bool.Decides.{nat_tests}
use Rattle.std.specs.FinMap as map
use Rattle.issuer_words.specs.Words.{AccountId, KeptOriginal, Lookup, PanPrefix, RowKey, RowVal, Rows, Writes, account_in, available_in, backing_of_account, backing_of_prefix, budget_in, is_from_account, is_from_budget, is_same_account, kept_in, kind_of, left_in, overlay, stay_if, stays, text_eq}
use Rattle.issuer_rows.proofs.PutsOnce.{IsFresh, AreApart}
use Rattle.issuer_rows.specs.declared.row_key.RowKey.TheVariants as key
use Rattle.issuer_laws.proofs.Keys.{get-put, get-other, other_key, texts_same, texts_apart}
use Rattle.issuer_laws.proofs.Sums.{part, sum-insert}

-- an account, or a prefix with its budget
pub data Holder : Type 0 where
  Account : AccountId → Holder
  Prefix : PanPrefix → Holder

-- the key of its row
abbrev pub key_of : Holder → RowKey
key_of (Account id) = key.Account id
key_of (Prefix prefix) = key.Budget prefix

-- what its row has
abbrev pub in_row : Holder → Option RowVal → ℕ
in_row (Account id) row = available_in (account_in row)
in_row (Prefix prefix) row = left_in (budget_in row)

-- the original was paid from it
abbrev pub is_from : Holder → KeptOriginal → Bool
is_from (Account id) = is_from_account id
is_from (Prefix prefix) = is_from_budget prefix

-- its backing
abbrev pub backing : Holder → Rows → ℕ
backing (Account id) rows = backing_of_account rows id
backing (Prefix prefix) rows = backing_of_prefix rows prefix

-- it is this account
abbrev pub is_account_of : Holder → AccountId → Bool
is_account_of (Account id) a = is_same_account a id
is_account_of (Prefix prefix) a = false

-- it is this prefix
abbrev pub is_prefix_of : Holder → PanPrefix → Bool
is_prefix_of (Account id) p = false
is_prefix_of (Prefix prefix) p = text_eq p.0 prefix.0

-- what a row adds, as the row of the account or the budget
abbrev pub own_part : Holder → RowKey → Option RowVal → ℕ
own_part h (key.Card pan) row = 0
own_part h (key.Velocity pan day) row = 0
own_part h (key.Budget prefix) row = if is_prefix_of h prefix then left_in (budget_in row) else 0
own_part h (key.Original identity) row = 0
own_part h (key.Account id) row = if is_account_of h id then available_in (account_in row) else 0

-- what a row adds, as an original that stays paid
abbrev pub stay_part : Holder → RowKey → Option RowVal → ℕ
stay_part h k row = part (λ r. stay_if (is_from h) (kept_in r.0 r.1)) k row

-- what a row adds to the backing
abbrev pub weight : Holder → RowKey → Option RowVal → ℕ
weight h k row = own_part h k row + stay_part h k row

same_id : (a b : AccountId) → text_eq a.0 b.0 ≡ true → a ≡ b
same_id a b e = λ i. record { 0 = texts_same a.0 b.0 e i }

other_id : (a b : AccountId) → text_eq a.0 b.0 ≡ false → (b ≡ a) → ⊥
other_id a b e same = texts_apart a.0 b.0 e (ap (λ (x : AccountId). x.0) (sym same))

same_prefix : (a b : PanPrefix) → text_eq a.0 b.0 ≡ true → a ≡ b
same_prefix a b e = λ i. record { 0 = texts_same a.0 b.0 e i }

other_prefix : (a b : PanPrefix) → text_eq a.0 b.0 ≡ false → (b ≡ a) → ⊥
other_prefix a b e same = texts_apart a.0 b.0 e (ap (λ (x : PanPrefix). x.0) (sym same))

-- the account or the prefix that a key of its kind names
abbrev id_in : AccountId → RowKey → AccountId
id_in else_so (key.Account id) = id
id_in else_so _ = else_so

abbrev prefix_in : PanPrefix → RowKey → PanPrefix
prefix_in else_so (key.Budget prefix) = prefix
prefix_in else_so _ = else_so

plus : (a b : ℕ) → a ≡ b → a + 0 ≡ 0 + b
plus a b e = omega arith

swap : (a b c d : ℕ) → a ≡ c → b ≡ d → a + b ≡ c + d
swap a b c d e f = omega arith

-- what its row has after a row is written
own-put : (h : Holder) (rows : Rows) (k : RowKey) (v : RowVal) → in_row h (map.get (map.insert rows k v) (key_of h)) + own_part h k (map.get rows k) ≡ own_part h k (Some v) + in_row h (map.get rows (key_of h))
own-put (Account id) rows (key.Card pan) v = plus _ _ (ap (in_row (Account id)) (get-other rows (key.Card pan) v (key.Account id) (other_key _ _ refl)))
own-put (Account id) rows (key.Velocity pan day) v = plus _ _ (ap (in_row (Account id)) (get-other rows (key.Velocity pan day) v (key.Account id) (other_key _ _ refl)))
own-put (Account id) rows (key.Budget prefix) v = plus _ _ (ap (in_row (Account id)) (get-other rows (key.Budget prefix) v (key.Account id) (other_key _ _ refl)))
own-put (Account id) rows (key.Original identity) v = plus _ _ (ap (in_row (Account id)) (get-other rows (key.Original identity) v (key.Account id) (other_key _ _ refl)))
own-put (Account id) rows (key.Account a) v =
    elim (text_eq a.0 id.0) as (λ b. text_eq a.0 id.0 ≡ b → in_row (Account id) (map.get (map.insert rows (key.Account a) v) (key.Account id)) + (if b then in_row (Account id) (map.get rows (key.Account a)) else 0) ≡ (if b then in_row (Account id) (Some v) else 0) + in_row (Account id) (map.get rows (key.Account id))) [
      | true ↦ λ e.
          let same = same_id a id e in
          swap _ _ _ _
          (ap (λ (x : AccountId). in_row (Account id) (map.get (map.insert rows (key.Account a) v) (key.Account x))) (sym same) ∙ ap (in_row (Account id)) (get-put rows (key.Account a) v))
          (ap (λ (x : AccountId). in_row (Account id) (map.get rows (key.Account x))) same)
      | false ↦ λ e. plus _ _ (ap (in_row (Account id)) (get-other rows (key.Account a) v (key.Account id) (λ s. other_id a id e (ap (id_in id) s))))
    ] refl
own-put (Prefix prefix) rows (key.Card pan) v = plus _ _ (ap (in_row (Prefix prefix)) (get-other rows (key.Card pan) v (key.Budget prefix) (other_key _ _ refl)))
own-put (Prefix prefix) rows (key.Velocity pan day) v = plus _ _ (ap (in_row (Prefix prefix)) (get-other rows (key.Velocity pan day) v (key.Budget prefix) (other_key _ _ refl)))
own-put (Prefix prefix) rows (key.Original identity) v = plus _ _ (ap (in_row (Prefix prefix)) (get-other rows (key.Original identity) v (key.Budget prefix) (other_key _ _ refl)))
own-put (Prefix prefix) rows (key.Account a) v = plus _ _ (ap (in_row (Prefix prefix)) (get-other rows (key.Account a) v (key.Budget prefix) (other_key _ _ refl)))
own-put (Prefix prefix) rows (key.Budget p) v =
    elim (text_eq p.0 prefix.0) as (λ b. text_eq p.0 prefix.0 ≡ b → in_row (Prefix prefix) (map.get (map.insert rows (key.Budget p) v) (key.Budget prefix)) + (if b then in_row (Prefix prefix) (map.get rows (key.Budget p)) else 0) ≡ (if b then in_row (Prefix prefix) (Some v) else 0) + in_row (Prefix prefix) (map.get rows (key.Budget prefix))) [
      | true ↦ λ e.
          let same = same_prefix p prefix e in
          swap _ _ _ _
          (ap (λ (x : PanPrefix). in_row (Prefix prefix) (map.get (map.insert rows (key.Budget p) v) (key.Budget x))) (sym same) ∙ ap (in_row (Prefix prefix)) (get-put rows (key.Budget p) v))
          (ap (λ (x : PanPrefix). in_row (Prefix prefix) (map.get rows (key.Budget x))) same)
      | false ↦ λ e. plus _ _ (ap (in_row (Prefix prefix)) (get-other rows (key.Budget p) v (key.Budget prefix) (λ s. other_prefix p prefix e (ap (prefix_in prefix) s))))
    ] refl

backing_is : (h : Holder) (rows : Rows) → backing h rows ≡ in_row h (map.get rows (key_of h)) + stays (is_from h) rows
backing_is (Account id) rows = refl
backing_is (Prefix prefix) rows = refl

sums : (a b c d e f g h : ℕ) → a + b ≡ c + d → e + f ≡ g + h → (a + e) + (b + f) ≡ (c + g) + (d + h)
sums a b c d e f g h p q = omega arith

-- the backing after a row is written, with what the old row added, is the backing before, with what the new row adds
backing-put : (h : Holder) (rows : Rows) (k : RowKey) (v : RowVal) → backing h (map.insert rows k v) + weight h k (map.get rows k) ≡ weight h k (Some v) + backing h rows
backing-put h rows k v =
    ap (λ n. n + weight h k (map.get rows k)) (backing_is h (map.insert rows k v))
    ∙ sums _ _ _ _ _ _ _ _ (own-put h rows k v) (sum-insert (λ r. stay_if (is_from h) (kept_in r.0 r.1)) rows k v)
    ∙ ap (λ n. weight h k (Some v) + n) (sym (backing_is h rows))

-- what the rows that are written added before
abbrev pub weights_before : Holder → Lookup → Writes → ℕ
weights_before h look [] = 0
weights_before h look (w ∷ ws) = weight h w.0 (look w.0) + weights_before h look ws

-- what they add after
abbrev pub weights_after : Holder → Writes → ℕ
weights_after h [] = 0
weights_after h (w ∷ ws) = weight h w.0 (Some w.1) + weights_after h ws

-- the rows that are written add as much as before
abbrev pub IsBalanced : Holder → Lookup → Writes → Type 0
IsBalanced h look ws = weights_before h look ws ≡ weights_after h ws

turned : (a b : ℕ) → IsTrue (not (a == b)) → IsTrue (not (b == a))
turned a b h = grind (arith, nat_tests)

-- a row that is written changes nothing of what rows of other kinds added
same_before : (h : Holder) (rows : Rows) (k : RowKey) (v : RowVal) (ws : Writes) → IsFresh (kind_of k) ws → weights_before h (map.get (map.insert rows k v)) ws ≡ weights_before h (map.get rows) ws
same_before h rows k v [] fresh = refl
same_before h rows k v (w ∷ ws) fresh =
    swap _ _ _ _ (ap (weight h w.0) (get-other rows k v w.0 (other_key w.0 k (turned (kind_of k) (kind_of w.0) fresh.0)))) (same_before h rows k v ws fresh.1)

steps : (last before all middle new old rest now : ℕ) → last + all ≡ rest + middle → all ≡ before → middle + old ≡ new + now → last + (old + before) ≡ (new + rest) + now
steps last before all middle new old rest now p q r = omega arith

-- the backing after rows of different kinds are written
backing-overlay : (h : Holder) (ws : Writes) (rows : Rows) → AreApart ws → backing h (overlay rows ws) + weights_before h (map.get rows) ws ≡ weights_after h ws + backing h rows
backing-overlay h [] rows apart = omega arith
backing-overlay h (w ∷ ws) rows apart =
    steps _ _ _ _ _ _ _ _ (backing-overlay h ws (map.insert rows w.0 w.1) apart.1) (same_before h rows w.0 w.1 ws apart.0) (backing-put h rows w.0 w.1)

cancelled : (a b c d : ℕ) → a + b ≡ c + d → b ≡ c → a ≡ d
cancelled a b c d p q = omega arith

-- rows that add as much as before keep the backing
pub balanced_keeps : (h : Holder) (rows : Rows) (ws : Writes) → AreApart ws → IsBalanced h (map.get rows) ws → backing h (overlay rows ws) ≡ backing h rows
balanced_keeps h rows ws apart balanced = cancelled _ _ _ _ (backing-overlay h ws rows apart) balanced
