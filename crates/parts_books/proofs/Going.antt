-- Books into which rows go, one thing after another.
use Rattle.std.proofs.Common.{◌≡◌, ℕ, zero, suc, ◌+◌, ◌<◌, ◌≤◌, Bool, true, false, ◌&&◌, ◌||◌, not, cond, List, [], ◌∷◌, ◌++◌, take, drop, get_or, length, add-one, append-nil, append_assoc, arith, Option, Some, None, IsPermutation, refl, sym, ap, ◌∙◌}
use Rattle.std.proofs.Math.Seq.{take-suc}
use Rattle.std.proofs.lemmas.List.Sorted.{list_any-IsPermutation}
use Rattle.std.specs.FinMap as map
use Rattle.std.specs.List.{list_any}
use Rattle.issuer_rows.proofs.KeyLaws.{key_cmp_total, key_cmp_antisymmetric, key_eq_decides, same_test}
use Rattle.issuer_words.specs.Words.{Frame, IsWithin, RowKey, RowVal, Rows, key_cmp, key_eq}
use Rattle.issuer_laws.specs.Parts.{may_need}
use Rattle.issuer_laws.specs.Rules.{has}
use Rattle.book_changes.proofs.Splitting.{any_at, get_retained, none_within, put_seen, step, both_put}
use Rattle.engine_parts.proofs.JoinLaws.{get_joined}
use Rattle.engine_parts.specs.TwoBooks.{first_of, joined}
use Rattle.parts_books.specs.PartBooks.{accounts_of, each_from, is_among, is_as_in_rest, is_for, is_for_one, is_of_account, lent_keys, may_need_one, own_rows, rest_rows, rows_for}

abbrev pub Row : Type 0
Row = RowKey × RowVal

-- ---- one thing after another

-- What stands under each key at last, when those things are left: what such a thing brings, where one of them passes the test, else what
-- stands there.
abbrev pub IsGoing : {A : Type 0} → (RowKey → A → Bool) → List A → (RowKey → Option RowVal) → Rows → Rows → Type 0
IsGoing test left brings so_far all = (q : RowKey) → cond (list_any (test q) left) (brings q) (map.get so_far q) ≡ map.get all q

-- what a thing left under each key
abbrev pub HasGone : (RowKey → Bool) → (RowKey → Option RowVal) → Rows → Rows → Type 0
HasGone test brings before after = (q : RowKey) → map.get after q ≡ cond (test q) (brings q) (map.get before q)

pub goes_on : {A : Type 0} (test : RowKey → A → Bool) (x : A) (left : List A) (brings : RowKey → Option RowVal) (before after all : Rows) → IsGoing test (x ∷ left) brings before all → HasGone (λ q. test q x) brings before after → IsGoing test left brings after all
goes_on test x left brings before after all h gone q = step (test q x) (list_any (test q) left) _ _ _ _ (h q) (gone q)

-- behind the last
pub none_left : {A : Type 0} (xs : List A) (i : ℕ) → length xs ≤ i → drop i xs ≡ []
none_left [] zero h = refl
none_left [] (suc i) h = refl
none_left (x ∷ xs) zero h = absurd (omega (arith, h))
none_left (x ∷ xs) (suc i) h = none_left xs i (omega (arith, h))

-- nothing is left
pub all_gone : {A : Type 0} (test : RowKey → A → Bool) (brings : RowKey → Option RowVal) (so_far all : Rows) → IsGoing test [] brings so_far all → so_far ≡ all
all_gone test brings so_far all h = map.same_map key_cmp_total key_cmp_antisymmetric so_far all h

or_assoc : (a b c : Bool) → (a || (b || c)) ≡ ((a || b) || c)
or_assoc true b c = refl
or_assoc false b c = refl

or_false : (b : Bool) → (b || false) ≡ b
or_false true = refl
or_false false = refl

module _ {A : Type 0} where
  any_last : (t : A → Bool) (xs : List A) (x : A) → list_any t (xs ++ x ∷ []) ≡ (list_any t xs || t x)
  any_last t [] x = or_false (t x)
  any_last t (y ∷ xs) x = ap (λ (b : Bool). t y || b) (any_last t xs x) ∙ or_assoc (t y) (list_any t xs) (t x)

  any_next : (t : A → Bool) (xs : List A) (i : ℕ) (x : A) → i < length xs → get_or xs i x ≡ x → list_any t (take (i + 1) xs) ≡ (list_any t (take i xs) || t x)
  any_next t xs i x within at =
      ap (λ (n : ℕ). list_any t (take n xs)) (add-one i) ∙ ap (list_any t) (take-suc xs i x within ∙ ap (λ (y : A). take i xs ++ y ∷ []) at) ∙ any_last t (take i xs) x

spread : (a b c : Bool) → ((a && b) || (a && c)) ≡ (a && (b || c))
spread true b c = refl
spread false b c = refl

-- what the rows under one more key leave, of those that pass a test
pub goes_again : (test : RowKey → Bool) (ks : List RowKey) (i : ℕ) (k : RowKey) (brings : RowKey → Option RowVal) (before between after : Rows) → i < length ks → get_or ks i k ≡ k
    → HasGone (λ q. test q && is_among q (take i ks)) brings before between → HasGone (λ q. test q && key_eq q k) brings between after
    → HasGone (λ q. test q && is_among q (take (i + 1) ks)) brings before after
goes_again test ks i k brings before between after within at one two q =
    both_put (test q && is_among q (take i ks)) (test q && key_eq q k) (brings q) (map.get before q) (map.get between q) (map.get after q) (one q) (two q)
    ∙ ap (λ (b : Bool). cond b (brings q) (map.get before q)) (spread (test q) (is_among q (take i ks)) (key_eq q k) ∙ ap (λ (b : Bool). test q && b) (sym (any_next (key_eq q) ks i k within at)))

-- ---- lent accounts

lent_last : (rows : Rows) (ks : List RowKey) (k : RowKey) → lent_keys rows (ks ++ k ∷ []) ≡ lent_keys rows ks ++ accounts_of (map.get rows k)
lent_last rows [] k = append-nil (accounts_of (map.get rows k))
lent_last rows (x ∷ ks) k =
    ap (λ (more : List RowKey). accounts_of (map.get rows x) ++ more) (lent_last rows ks k) ∙ sym (append_assoc (accounts_of (map.get rows x)) (lent_keys rows ks) (accounts_of (map.get rows k)))

-- those of the row under one more key
pub lent_next : (rows : Rows) (ks : List RowKey) (i : ℕ) (k : RowKey) → i < length ks → get_or ks i k ≡ k → lent_keys rows (take (i + 1) ks) ≡ lent_keys rows (take i ks) ++ accounts_of (map.get rows k)
lent_next rows ks i k within at =
    ap (λ (n : ℕ). lent_keys rows (take n ks)) (add-one i) ∙ ap (lent_keys rows) (take-suc ks i k within ∙ ap (λ (x : RowKey). take i ks ++ x ∷ []) at) ∙ lent_last rows (take i ks) k

-- ---- a test beside a key

and_false : (b : Bool) → false ≡ (b && false)
and_false true = refl
and_false false = refl

passes_here : (test : RowKey → Bool) (k q : RowKey) → test k ≡ true → key_eq q k ≡ (test q && key_eq q k)
passes_here test k q own =
    elim (key_eq q k) as (λ t. key_eq q k ≡ t → t ≡ (test q && t)) [
      | true ↦ λ same. sym (ap (λ (b : Bool). b && true) (ap test ((key_eq_decides q k).0 same) ∙ own))
      | false ↦ λ _. and_false (test q)
    ] refl

fails_here : (test : RowKey → Bool) (k q : RowKey) → test k ≡ false → false ≡ (test q && key_eq q k)
fails_here test k q out =
    elim (key_eq q k) as (λ t. key_eq q k ≡ t → false ≡ (test q && t)) [
      | true ↦ λ same. sym (ap (λ (b : Bool). b && true) (ap test ((key_eq_decides q k).0 same) ∙ out))
      | false ↦ λ _. and_false (test q)
    ] refl

-- where the key passes the test, what its row does
pub passing : (test : RowKey → Bool) (k : RowKey) (brings : RowKey → Option RowVal) (before after : Rows) → test k ≡ true → HasGone (λ q. key_eq q k) brings before after → HasGone (λ q. test q && key_eq q k) brings before after
passing test k brings before after own gone q = gone q ∙ ap (λ (b : Bool). cond b (brings q) (map.get before q)) (passes_here test k q own)

-- where it doesn't, nothing
pub failing : (test : RowKey → Bool) (k : RowKey) (brings : RowKey → Option RowVal) (rows : Rows) → test k ≡ false → HasGone (λ q. test q && key_eq q k) brings rows rows
failing test k brings rows out q = ap (λ (b : Bool). cond b (brings q) (map.get rows q)) (fails_here test k q out)

-- ---- the book of a part

pub part_begins : (rows : Rows) (frames : List Frame) → IsGoing (is_for rows) frames (map.get rows) map.empty (rows_for rows frames)
part_begins rows frames q =
    ap (cond (is_for_one rows frames q) (map.get rows q)) (map.get-empty key_cmp q) ∙ sym (get_retained rows (is_for_one rows frames) q)

-- one row is put among those of the book
pub put_here : (other whole : Rows) (k : RowKey) (v : RowVal) → map.get whole k ≡ Some v → HasGone (λ q. key_eq q k) (map.get whole) other (map.insert other k v)
put_here other whole k v at q = put_seen other whole k v q at

-- there is none to be put
pub none_here : (other whole : Rows) (k : RowKey) → IsWithin other whole → map.get whole k ≡ None → HasGone (λ q. key_eq q k) (map.get whole) other other
none_here other whole k within none q =
    elim (key_eq q k) as (λ t. key_eq q k ≡ t → map.get other q ≡ cond t (map.get whole q) (map.get other q)) [
      | true ↦ λ same. let gone = ap (map.get whole) ((key_eq_decides q k).0 same) ∙ none in none_within other whole q within gone ∙ sym gone
      | false ↦ λ _. refl
    ] refl

-- ---- the rest

-- the row isn't left to the rest
abbrev pub is_taken : Rows → RowKey → Frame → Bool
is_taken rows q frame = not (is_of_account q) && is_among q (may_need rows frame)

any_and : {A : Type 0} (a : Bool) (t : A → Bool) (xs : List A) → list_any (λ x. a && t x) xs ≡ (a && list_any t xs)
any_and true t [] = refl
any_and false t [] = refl
any_and true t (x ∷ xs) = ap (λ (b : Bool). t x || b) (any_and true t xs)
any_and false t (x ∷ xs) = any_and false t xs

turned : (a b : Bool) (o : Option RowVal) → cond (not a && b) None o ≡ cond (a || not b) o None
turned true b o = refl
turned false true o = refl
turned false false o = refl

pub rest_begins : (rows : Rows) (frames : List Frame) → IsGoing (is_taken rows) frames (λ q. None) rows (rest_rows rows frames)
rest_begins rows frames q =
    ap (λ (b : Bool). cond b None (map.get rows q)) (any_and (not (is_of_account q)) (λ frame. is_among q (may_need rows frame)) frames)
    ∙ turned (is_of_account q) (may_need_one rows frames q) (map.get rows q)
    ∙ sym (get_retained rows (λ k. is_of_account k || not (may_need_one rows frames k)) q)

-- one row is taken
pub get-removed : (rows : Rows) (k q : RowKey) → map.get (map.remove rows k) q ≡ cond (key_eq q k) None (map.get rows q)
get-removed rows k q = map.get-remove key_cmp_total rows k q ∙ ap (λ (b : Bool). cond b None (map.get rows q)) (same_test q k)

-- ---- the whole book

-- the row is the part's own, and stands under this key
abbrev pub is_own : Rows → Rows → RowKey → Row → Bool
is_own rest book q row = not (is_as_in_rest rest book row.0) && key_eq q row.0

own_first : (own : Bool) (o below : Option RowVal) → cond (has (λ v. own) o) o below ≡ first_of (cond own o None) below
own_first true None below = refl
own_first false None below = refl
own_first true (Some v) below = refl
own_first false (Some v) below = refl

pub own_begins : (rest book whole : Rows) (es : List Row) → IsPermutation (map.entries book) es → IsGoing (is_own rest book) es (map.get book) whole (joined whole (own_rows rest book))
own_begins rest book whole es moved q =
    let shuffled = list_any-IsPermutation (is_own rest book q) (map.entries book) es moved in
    let at = any_at (λ e. not (is_as_in_rest rest book e.0)) book q in
    ap (λ (b : Bool). cond b (map.get book q) (map.get whole q)) (sym shuffled ∙ at)
    ∙ own_first (not (is_as_in_rest rest book q)) (map.get book q) (map.get whole q)
    ∙ ap (λ (o : Option RowVal). first_of o (map.get whole q)) (sym (get_retained book (λ k. not (is_as_in_rest rest book k)) q))
    ∙ sym (get_joined whole (own_rows rest book) q)

-- ---- part after part

-- one more part
pub each_last : {A : Type 0} (of : ℕ → A) (from count : ℕ) → each_from of from (count + 1) ≡ each_from of from count ++ of (from + count) ∷ []
each_last of from count = ap (each_from of from) (add-one count) ∙ last of from count
  where
    last : {A : Type 0} (of : ℕ → A) (from count : ℕ) → each_from of from (suc count) ≡ each_from of from count ++ of (from + count) ∷ []
    last of from zero = ap (λ (n : ℕ). of n ∷ []) (omega arith)
    last {A} of from (suc count) = ap (λ (xs : List A). of from ∷ xs) (last of (suc from) count ∙ ap (λ (n : ℕ). each_from of (suc from) count ++ of n ∷ []) (omega arith))
