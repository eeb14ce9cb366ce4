-- A book that is split row by row.
use Rattle.std.proofs.Common.{◌≡◌, ℕ, Bool, true, false, ◌&&◌, ◌||◌, not, cond, List, [], ◌∷◌, Option, Some, None, IfSome, IsPermutation, refl, sym, ap, ◌∙◌, subst}
use Rattle.std.proofs.lemmas.Bool.{false≢true, and_parts, or_right}
use Rattle.std.proofs.lemmas.List.Sorted.{list_any-IsPermutation}
use Rattle.std.specs.Cmp.Derive.{both_true}
use Rattle.std.specs.FinMap as map
use Rattle.std.specs.List.{AllByRecursion, list_any}
use Rattle.issuer_words.specs.Words.{AccountId, IsWithin, RowKey, RowVal, Rows, key_cmp, key_eq}
use Rattle.issuer_rows.proofs.KeyLaws.{both_ways, key_cmp_total, key_cmp_antisymmetric, key_eq_decides, same_test}
use Rattle.issuer_rows.proofs.ListedRows.{listed_found}
use Rattle.issuer_laws.proofs.Keys.{get-put, get-other}
use Rattle.issuer_laws.specs.Rules.{has}
use Rattle.book_changes.specs.Archive.{is_past, is_past_at, has_paid, has_paid_before, new_rows, old_rows}

abbrev pub Row : Type 0
Row = RowKey × RowVal

-- ---- rows of a book

-- a key that is found has a row that passes what its row passes
pub any_found : (test : Row → Bool) (q : RowKey) (v : RowVal) (es : List Row) → map.find key_cmp q es ≡ Some v → test (q, v) ≡ true → list_any test es ≡ true
any_found test q v [] found passes = absurd (let gone = ap (λ (o : Option RowVal). has (λ w. true) o) found in false≢true gone)
any_found test q v (e ∷ es) found passes =
    elim (key_eq q e.0) as (λ t. key_eq q e.0 ≡ t → cond t (Some e.1) (map.find key_cmp q es) ≡ Some v → (test e || list_any test es) ≡ true) [
      | true ↦ λ same is.
          let key = (key_eq_decides q e.0).0 same in
          let value = ap (λ (o : Option RowVal). has (λ w. test (q, w)) o) is in
          let own : test e ≡ true = ap (λ (k : RowKey). test (k, e.1)) (sym key) ∙ value ∙ passes in
          ap (λ (b : Bool). b || list_any test es) own
      | false ↦ λ other is. or_right (test e) (list_any test es) (any_found test q v es is passes)
    ] refl (ap (λ (b : Bool). cond b (Some e.1) (map.find key_cmp q es)) (sym (same_test q e.0)) ∙ found)

pub any_row : (test : Row → Bool) (rows : Rows) (q : RowKey) (v : RowVal) → map.get rows q ≡ Some v → test (q, v) ≡ true → list_any test (map.entries rows) ≡ true
any_row test rows q v at passes = any_found test q v (map.entries rows) (sym (map.get-entries rows q) ∙ at) passes

-- a test of a key's row is that of one of all rows, which are found
any_at_found : (test : Row → Bool) (rows : Rows) (q : RowKey) (es : List Row) → AllByRecursion (λ e. map.get rows e.0 ≡ Some e.1) es → list_any (λ e. test e && key_eq q e.0) es ≡ true → has (λ v. test (q, v)) (map.get rows q) ≡ true
any_at_found test rows q [] there h = absurd (false≢true h)
any_at_found test rows q (e ∷ es) there h =
    elim (key_eq q e.0) as (λ t. key_eq q e.0 ≡ t → ((test e && t) || list_any (λ f. test f && key_eq q f.0) es) ≡ true → has (λ v. test (q, v)) (map.get rows q) ≡ true) [
      | true ↦ λ same any.
          elim (test e) as (λ b. test e ≡ b → ((b && true) || list_any (λ f. test f && key_eq q f.0) es) ≡ true → has (λ v. test (q, v)) (map.get rows q) ≡ true) [
            | true ↦ λ own _.
                let key = (key_eq_decides q e.0).0 same in
                ap (has (λ v. test (q, v))) (ap (map.get rows) key ∙ there.0) ∙ ap (λ (k : RowKey). test (k, e.1)) key ∙ own
            | false ↦ λ _ rest. any_at_found test rows q es there.1 rest
          ] refl any
      | false ↦ λ _ any. any_at_found test rows q es there.1 (apart (test e) _ any)
    ] refl h
  where
    apart : (a b : Bool) → ((a && false) || b) ≡ true → b ≡ true
    apart true b h = h
    apart false b h = h

pub any_at : (test : Row → Bool) (rows : Rows) (q : RowKey) → list_any (λ e. test e && key_eq q e.0) (map.entries rows) ≡ has (λ v. test (q, v)) (map.get rows q)
any_at test rows q =
    both_ways _ _
    (any_at_found test rows q (map.entries rows) (listed_found rows))
    (λ h. back (map.get rows q) refl h)
  where
    back : (o : Option RowVal) → map.get rows q ≡ o → has (λ v. test (q, v)) o ≡ true → list_any (λ e. test e && key_eq q e.0) (map.entries rows) ≡ true
    back None at h = absurd (false≢true h)
    back (Some v) at h = any_row (λ e. test e && key_eq q e.0) rows q v at (both_true h ((key_eq_decides q q).1 refl))

-- ---- the two books

abbrev pub is_new : List ℕ → Rows → RowKey → Bool
is_new date rows k = not (is_past_at date rows k)

abbrev pub is_old : List ℕ → Rows → RowKey → Bool
is_old date rows k = is_past_at date rows k || has_paid_before date rows k

pub get_retained : (rows : Rows) (test : RowKey → Bool) (q : RowKey) → map.get (map.retain_keys rows test) q ≡ cond (test q) (map.get rows q) None
get_retained rows test q = map.get-retain_keys rows test q (λ x tie. ap test (sym (key_cmp_antisymmetric q x tie)))

pub get_new : (date : List ℕ) (rows : Rows) (q : RowKey) → map.get (new_rows date rows) q ≡ cond (is_new date rows q) (map.get rows q) None
get_new date rows q = get_retained rows (is_new date rows) q

pub get_old : (date : List ℕ) (rows : Rows) (q : RowKey) → map.get (old_rows date rows) q ≡ cond (is_old date rows q) (map.get rows q) None
get_old date rows q = get_retained rows (is_old date rows) q

-- a row of the book goes to the new one, or to the old one, or brings its payer there
abbrev pub stays : List ℕ → RowKey → Row → Bool
stays date q row = not (is_past date row.0 row.1) && key_eq q row.0

abbrev pub moves : List ℕ → RowKey → Row → Bool
moves date q row = is_past date row.0 row.1 && (key_eq q row.0 || has_paid q row.1)

-- ---- row by row

-- what a book has under a key, when the rows that are left have gone to it that a test says
abbrev pub IsGoing : (RowKey → Row → Bool) → List Row → Rows → Rows → Rows → Type 0
IsGoing test left whole so_far all = (q : RowKey) → cond (list_any (test q) left) (map.get whole q) (map.get so_far q) ≡ map.get all q

pub step : (a b : Bool) (whole before after all : Option RowVal) → cond (a || b) whole before ≡ all → after ≡ cond a whole before → cond b whole after ≡ all
step true true whole before after all h e = h
step true false whole before after all h e = e ∙ h
step false true whole before after all h e = h
step false false whole before after all h e = e ∙ h

pub goes_on : (test : RowKey → Row → Bool) (row : Row) (left : List Row) (whole before after all : Rows) → IsGoing test (row ∷ left) whole before all → ((q : RowKey) → map.get after q ≡ cond (test q row) (map.get whole q) (map.get before q)) → IsGoing test left whole after all
goes_on test row left whole before after all h put q = step (test q row) (list_any (test q) left) _ _ _ _ (h q) (put q)

-- a row that the test leaves out
pub goes_by : (test : RowKey → Row → Bool) (row : Row) (left : List Row) (whole so_far all : Rows) → IsGoing test (row ∷ left) whole so_far all → ((q : RowKey) → test q row ≡ false) → IsGoing test left whole so_far all
goes_by test row left whole so_far all h out =
    goes_on test row left whole so_far so_far all h (λ q. ap (λ (b : Bool). cond b (map.get whole q) (map.get so_far q)) (sym (out q)))

-- no row is left
pub has_gone : (test : RowKey → Row → Bool) (whole so_far all : Rows) → IsGoing test [] whole so_far all → so_far ≡ all
has_gone test whole so_far all h = map.same_map key_cmp_total key_cmp_antisymmetric so_far all h

-- one row is put among others
pub put_seen : (other whole : Rows) (k : RowKey) (v : RowVal) (q : RowKey) → map.get whole k ≡ Some v → map.get (map.insert other k v) q ≡ cond (key_eq q k) (map.get whole q) (map.get other q)
put_seen other whole k v q at =
    elim (key_eq q k) as (λ t. key_eq q k ≡ t → map.get (map.insert other k v) q ≡ cond t (map.get whole q) (map.get other q)) [
      | true ↦ λ e. let same = (key_eq_decides q k).0 e in ap (map.get (map.insert other k v)) same ∙ get-put other k v ∙ sym at ∙ ap (map.get whole) (sym same)
      | false ↦ λ e. get-other other k v q (λ same. false≢true (sym e ∙ (key_eq_decides q k).1 same))
    ] refl

-- ---- before the first row

abbrev pub no_rows : Rows
no_rows = map.empty

nothing_there : (q : RowKey) → map.get no_rows q ≡ None
nothing_there q = map.get-empty key_cmp q

negated : (test : RowVal → Bool) (o : Option RowVal) → cond (has (λ v. not (test v)) o) o None ≡ cond (not (has test o)) o None
negated test None = refl
negated test (Some v) = refl

pub new_begins : (date : List ℕ) (rows : Rows) (es : List Row) → IsPermutation (map.entries rows) es → IsGoing (stays date) es rows no_rows (new_rows date rows)
new_begins date rows es moved q =
    let shuffled = list_any-IsPermutation (stays date q) (map.entries rows) es moved in
    let at = any_at (λ e. not (is_past date e.0 e.1)) rows q in
    ap (λ (b : Bool). cond b (map.get rows q) (map.get no_rows q)) (sym shuffled ∙ at)
    ∙ ap (cond (has (λ v. not (is_past date q v)) (map.get rows q)) (map.get rows q)) (nothing_there q)
    ∙ negated (is_past date q) (map.get rows q)
    ∙ sym (get_new date rows q)

either_test : (a b c x y : Bool) → ((a && (b || c)) || (x || y)) ≡ (((a && b) || x) || ((a && c) || y))
either_test true true c x y = refl
either_test true false true true y = refl
either_test true false true false y = refl
either_test true false false x y = refl
either_test false b c x y = refl

any_either : (past : Row → Bool) (one other : Row → Bool) (es : List Row) → list_any (λ e. past e && (one e || other e)) es ≡ (list_any (λ e. past e && one e) es || list_any (λ e. past e && other e) es)
any_either past one other [] = refl
any_either past one other (e ∷ es) =
    ap (λ (b : Bool). (past e && (one e || other e)) || b) (any_either past one other es)
    ∙ either_test (past e) (one e) (other e) (list_any (λ f. past f && one f) es) (list_any (λ f. past f && other f) es)

pub old_begins : (date : List ℕ) (rows : Rows) (es : List Row) → IsPermutation (map.entries rows) es → IsGoing (moves date) es rows no_rows (old_rows date rows)
old_begins date rows es moved q =
    let shuffled = list_any-IsPermutation (moves date q) (map.entries rows) es moved in
    let parts = any_either (λ e. is_past date e.0 e.1) (λ e. key_eq q e.0) (λ e. has_paid q e.1) (map.entries rows) in
    let at = any_at (λ e. is_past date e.0 e.1) rows q in
    ap (λ (b : Bool). cond b (map.get rows q) (map.get no_rows q)) (sym shuffled ∙ parts ∙ ap (λ (b : Bool). b || has_paid_before date rows q) at)
    ∙ ap (cond (is_old date rows q) (map.get rows q)) (nothing_there q)
    ∙ sym (get_old date rows q)

-- ---- rows of the book alone

pub own_value : (o : Option RowVal) → IfSome o (λ v. o ≡ Some v)
own_value (Some v) = refl
own_value None = tt

pub within_on : (test : RowKey → Bool) (whole before after : Rows) → IsWithin before whole → ((q : RowKey) → map.get after q ≡ cond (test q) (map.get whole q) (map.get before q)) → IsWithin after whole
within_on test whole before after h put q =
    subst (λ (o : Option RowVal). IfSome o (λ v. map.get whole q ≡ Some v)) (sym (put q))
    (elim (test q) as (λ b. IfSome (cond b (map.get whole q) (map.get before q)) (λ v. map.get whole q ≡ Some v)) [ true ↦ own_value (map.get whole q) | false ↦ h q ])

pub none_within : (one whole : Rows) (q : RowKey) → IsWithin one whole → map.get whole q ≡ None → map.get one q ≡ None
none_within one whole q h none = gone (map.get one q) (h q)
  where
    gone : (o : Option RowVal) → IfSome o (λ v. map.get whole q ≡ Some v) → o ≡ None
    gone None i = refl
    gone (Some v) i = absurd (false≢true (ap (has (λ w. true)) (sym none ∙ i)))

pub nothing_within : (whole : Rows) → IsWithin no_rows whole
nothing_within whole q = subst (λ (o : Option RowVal). IfSome o (λ v. map.get whole q ≡ Some v)) (sym (nothing_there q)) tt

-- ---- payers

-- what paid is an account
account_alone : (k : RowKey) (v : RowVal) → has_paid k v ≡ true → (id : AccountId) × (k ≡ RowKey.Account id)
account_alone (RowKey.Account id) v h = (id, refl)
account_alone (RowKey.Card pan) v h = absurd (false≢true h)
account_alone (RowKey.Velocity pan day) v h = absurd (false≢true h)
account_alone (RowKey.Budget prefix) v h = absurd (false≢true h)
account_alone (RowKey.Original identity) v h = absurd (false≢true h)

pub is_account : (date : List ℕ) (k : RowKey) (es : List Row) → list_any (λ row. is_past date row.0 row.1 && has_paid k row.1) es ≡ true → (id : AccountId) × (k ≡ RowKey.Account id)
is_account date k [] h = absurd (false≢true h)
is_account date k (e ∷ es) h =
    elim (is_past date e.0 e.1 && has_paid k e.1) as (λ b. (is_past date e.0 e.1 && has_paid k e.1) ≡ b → (b || list_any (λ row. is_past date row.0 row.1 && has_paid k row.1) es) ≡ true → (id : AccountId) × (k ≡ RowKey.Account id)) [
      | true ↦ λ own _. account_alone k e.1 (and_parts (is_past date e.0 e.1) (has_paid k e.1) own).1
      | false ↦ λ _ rest. is_account date k es rest
    ] refl h

-- the row, and then its payer
pub both_put : (own paid : Bool) (whole before between after : Option RowVal) → between ≡ cond own whole before → after ≡ cond paid whole between → after ≡ cond (own || paid) whole before
both_put true true whole before between after one two = two
both_put true false whole before between after one two = two ∙ one
both_put false true whole before between after one two = two
both_put false false whole before between after one two = two ∙ one
