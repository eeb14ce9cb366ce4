-- Lists of entries are read again, one list after another.
use Rattle.std.proofs.Common.{◌≡◌, ◌≤◌, Bool, true, false, cond, ◌&&◌, ◌||◌, List, [], ◌∷◌, Option, Some, None, Ok, Ordering, Less, Equal, Greater, is_eq, refl, sym, ap, ◌∙◌, arith}
use Rattle.std.proofs.lemmas.Cmp.{tied_itself}
use Rattle.std.proofs.lemmas.Option.{none-some}
use Rattle.std.specs.Prelude.{T}
use Rattle.std.specs.Cmp.{eq_by_cmp_equiv}
use Rattle.std.specs.FinMap as map
use Rattle.std.specs.FinMap.Entries.{find, find_tied, is_sorted, below_all}
use Rattle.std.specs.List.{AllByRecursion, filter}
use Rattle.std.specs.Ordering.{eq_by_cmp, is_lt}
use Rattle.json.specs.Tree.{items_depth}
use Rattle.issuer_rows.proofs.KeyLaws.{key_cmp_total, key_cmp_antisymmetric}
use Rattle.issuer_words.specs.Words.{RowKey, RowVal, Rows, key_cmp, overlay}
use Rattle.serde_json.specs.Read.{of_items}
use Rattle.serde_json.specs.Written.{items_outline}
use Rattle.book_laws.specs.Lists.{AreNew, add_entries, has_old_cards}
use Rattle.book_laws.specs.Parts.{is_in}
use Rattle.book_laws.specs.Text.{ReadsBack, rows_of, items_data}
use Rattle.book_laws.specs.declared.book_version.BookVersion.TheVariants.{Three}
use Rattle.book_laws.specs.declared.row_list.RowList.{RowList}
use Rattle.book_laws.specs.declared.row_list.RowList.TheVariants.{Cards, Days, Budgets, Originals, Ahead, Accounts}

abbrev pub Row : Type 0
Row = RowKey × RowVal

-- ---- the JSON value

pub items_again : (list : RowList) (rs : List Row) → AllByRecursion (ReadsBack list) rs → of_items (items_outline (items_data rs)) ≡ Some (items_data rs)
items_again list [] h = refl
items_again list (r ∷ rs) h = rw (h.0.value, items_again list rs h.1) refl

pub items_flat : (list : RowList) (rs : List Row) → AllByRecursion (ReadsBack list) rs → items_depth (items_outline (items_data rs)) ≤ 2
items_flat list [] h = omega arith
items_flat list (r ∷ rs) h = omega (arith, h.0.depth, items_flat list rs h.1)

-- ---- rows written one after another

none_old : (list : RowList) → has_old_cards Three list ≡ false
none_old Cards = refl
none_old Days = refl
none_old Budgets = refl
none_old Originals = refl
none_old Ahead = refl
none_old Accounts = refl

added : (list : RowList) (rs : List Row) (m : Rows) → AllByRecursion (ReadsBack list) rs → AreNew m rs → add_entries Three list (items_data rs) m ≡ Ok (overlay m rs)
unfolding add_entries
added list [] m h new = refl
added list (r ∷ rs) m h new = rw (none_old list, h.0.entry, new.0) (added list rs (map.insert m r.0 r.1) h.1 new.1)

-- no key stands twice
abbrev pub AreApart : List Row → Type 0
AreApart [] = Unit {0}
AreApart (r ∷ rs) = (find key_cmp r.0 rs ≡ None) × AreApart rs

both : (a b : Bool) → T (a && b) → T a × T b
both true b h = (tt, h)
both false b h = absurd h

none_of : {X : Type 0} (b : Bool) (x : X) (o : Option X) → cond b (Some x) o ≡ None → (b ≡ false) × (o ≡ None)
none_of true x o e = absurd cc
none_of false x o e = (refl, e)

below_none : (q : RowKey) (es : List Row) → T (below_all key_cmp q es) → find key_cmp q es ≡ None
below_none q [] h = refl
below_none q (e ∷ es) h =
    elim (key_cmp q e.0) as (λ r. T (is_lt r && below_all key_cmp q es) → cond (is_eq r) (Some e.1) (find key_cmp q es) ≡ None) [
      | Less ↦ λ less. below_none q es less
      | Equal ↦ λ less. absurd less
      | Greater ↦ λ less. absurd less
    ] h

pub sorted_apart : (es : List Row) → T (is_sorted key_cmp es) → AreApart es
sorted_apart [] h = tt
sorted_apart (e ∷ es) h = let p = both (below_all key_cmp e.0 es) _ h in (below_none e.0 es p.0, sorted_apart es p.1)

none_filter : (test : Row → Bool) (q : RowKey) (es : List Row) → find key_cmp q es ≡ None → find key_cmp q (filter test es) ≡ None
none_filter test q [] h = refl
none_filter test q (e ∷ es) h =
    let p = none_of (eq_by_cmp key_cmp q e.0) e.1 (find key_cmp q es) h in
    let rest = none_filter test q es p.1 in
    elim (test e) as (λ b. find key_cmp q (cond b (e ∷ filter test es) (filter test es)) ≡ None) [ true ↦ rw p.0 rest | false ↦ rest ]

apart_filter : (test : Row → Bool) (es : List Row) → AreApart es → AreApart (filter test es)
apart_filter test [] h = tt
apart_filter test (e ∷ es) h =
    let rest = apart_filter test es h.1 in
    elim (test e) as (λ b. AreApart (cond b (e ∷ filter test es) (filter test es))) [ true ↦ (none_filter test e.0 es h.0, rest) | false ↦ rest ]

still_new : (r : Row) (rs : List Row) (m : Rows) → find key_cmp r.0 rs ≡ None → AllByRecursion (λ x. map.get m x.0 ≡ None) rs → AllByRecursion (λ x. map.get (map.insert m r.0 r.1) x.0 ≡ None) rs
still_new r [] m e h = tt
still_new r (x ∷ rs) m e h =
    let p = none_of (eq_by_cmp key_cmp r.0 x.0) x.1 (find key_cmp r.0 rs) e in
    let other : eq_by_cmp key_cmp x.0 r.0 ≡ false = (eq_by_cmp_equiv key_cmp_total).symm x.0 r.0 ∙ p.0 in
    (map.get-insert key_cmp_total m r.0 r.1 x.0 ∙ rw other h.0, still_new r rs m p.1 h.1)

apart_new : (rs : List Row) (m : Rows) → AreApart rs → AllByRecursion (λ x. map.get m x.0 ≡ None) rs → AreNew m rs
apart_new [] m a h = tt
apart_new (r ∷ rs) m a h = (h.0, apart_new rs (map.insert m r.0 r.1) a.1 (still_new r rs m a.0 h.1))

abbrev or_else : Option RowVal → Option RowVal → Option RowVal
or_else None o = o
or_else (Some v) o = Some v

-- what is found after rows that are apart were written
got : (rs : List Row) (m : Rows) (q : RowKey) → AreApart rs → map.get (overlay m rs) q ≡ or_else (find key_cmp q rs) (map.get m q)
got [] m q a = refl
got (r ∷ rs) m q a =
    let step : or_else (find key_cmp q rs) (cond (eq_by_cmp key_cmp q r.0) (Some r.1) (map.get m q)) ≡ or_else (cond (eq_by_cmp key_cmp q r.0) (Some r.1) (find key_cmp q rs)) (map.get m q) =
    elim (key_cmp q r.0) as (λ o. key_cmp q r.0 ≡ o → or_else (find key_cmp q rs) (cond (is_eq o) (Some r.1) (map.get m q)) ≡ or_else (cond (is_eq o) (Some r.1) (find key_cmp q rs)) (map.get m q)) [
      | Less ↦ λ e. refl
      | Equal ↦ λ e. let none : find key_cmp q rs ≡ None = sym (find_tied key_cmp key_cmp_total q r.0 e rs) ∙ a.0 in rw none refl
      | Greater ↦ λ e. refl
    ] refl in
    got rs (map.insert m r.0 r.1) q a.1 ∙ ap (or_else (find key_cmp q rs)) (map.get-insert key_cmp_total m r.0 r.1 q) ∙ step

-- ---- several lists, one after another

weaker : {A : Type 0} (P Q : A → Type 0) (xs : List A) → ((x : A) → P x → Q x) → AllByRecursion P xs → AllByRecursion Q xs
weaker P Q [] f h = tt
weaker P Q (x ∷ xs) f h = (f x h.0, weaker P Q xs f h.1)

-- the value, if its row passes the test
abbrev pub kept : (Row → Bool) → RowKey → Option RowVal → Option RowVal
kept test q None = None
kept test q (Some v) = cond (test (q, v)) (Some v) None

-- the rows among es that pass the test, and no other
abbrev pub HasThose : List Row → (Row → Bool) → Rows → Type 0
HasThose es test m = (q : RowKey) → map.get m q ≡ kept test q (find key_cmp q es)

skipped : (b : Bool) (q : RowKey) (e : Row) (es : List Row) (o : Ordering) → key_cmp q e.0 ≡ o → is_eq o ≡ false → find key_cmp q (cond b (e ∷ es) es) ≡ find key_cmp q es
skipped true q e es o is differ = ap (λ r. cond (is_eq r) (Some e.1) (find key_cmp q es)) is ∙ ap (λ t. cond t (Some e.1) (find key_cmp q es)) differ
skipped false q e es o is differ = refl

met : (b : Bool) (q : RowKey) (e : Row) (es : List Row) → key_cmp q e.0 ≡ Equal → find key_cmp q es ≡ None → find key_cmp q (cond b (e ∷ es) es) ≡ cond b (Some e.1) None
met true q e es is none = ap (λ r. cond (is_eq r) (Some e.1) (find key_cmp q es)) is
met false q e es is none = none

found_in : (test : Row → Bool) (q : RowKey) (es : List Row) → AreApart es → find key_cmp q (filter test es) ≡ kept test q (find key_cmp q es)
found_in test q [] a = refl
found_in test q (e ∷ es) a =
    let rest = found_in test q es a.1 in
    elim (key_cmp q e.0) as (λ o. key_cmp q e.0 ≡ o → find key_cmp q (cond (test e) (e ∷ filter test es) (filter test es)) ≡ kept test q (cond (is_eq o) (Some e.1) (find key_cmp q es))) [
      | Less ↦ λ is. skipped (test e) q e (filter test es) Less is refl ∙ rest
      | Equal ↦ λ is.
          let none : find key_cmp q (filter test es) ≡ None = sym (find_tied key_cmp key_cmp_total q e.0 is (filter test es)) ∙ none_filter test e.0 es a.0 in
          met (test e) q e (filter test es) is none ∙ ap (λ (k : RowKey). cond (test (k, e.1)) (Some e.1) None) (sym (key_cmp_antisymmetric q e.0 is))
      | Greater ↦ λ is. skipped (test e) q e (filter test es) Greater is refl ∙ rest
    ] refl

past : (e : Row) (es : List Row) (x : Row) → find key_cmp e.0 es ≡ None → find key_cmp x.0 es ≡ Some x.1 → find key_cmp x.0 (e ∷ es) ≡ Some x.1
past e es x none is =
    elim (key_cmp x.0 e.0) as (λ o. key_cmp x.0 e.0 ≡ o → cond (is_eq o) (Some e.1) (find key_cmp x.0 es) ≡ Some x.1) [
      | Less ↦ λ t. is
      | Equal ↦ λ t. absurd (none-some x.1 (sym none ∙ find_tied key_cmp key_cmp_total x.0 e.0 t es ∙ is))
      | Greater ↦ λ t. is
    ] refl

-- each row that passes is found, and passes
in_list : (test : Row → Bool) (es : List Row) → AreApart es → AllByRecursion (λ x. (test x ≡ true) × (find key_cmp x.0 es ≡ Some x.1)) (filter test es)
in_list test [] a = tt
in_list test (e ∷ es) a =
    let rest = weaker (λ x. (test x ≡ true) × (find key_cmp x.0 es ≡ Some x.1)) (λ x. (test x ≡ true) × (find key_cmp x.0 (e ∷ es) ≡ Some x.1)) (filter test es) (λ x h. (h.0, past e es x a.0 h.1)) (in_list test es a.1) in
    let first : find key_cmp e.0 (e ∷ es) ≡ Some e.1 = ap (λ r. cond (is_eq r) (Some e.1) (find key_cmp e.0 es)) (tied_itself key_cmp_total e.0) in
    elim (test e) as (λ b. test e ≡ b → AllByRecursion (λ x. (test x ≡ true) × (find key_cmp x.0 (e ∷ es) ≡ Some x.1)) (cond b (e ∷ filter test es) (filter test es))) [ true ↦ λ is. ((is, first), rest) | false ↦ λ is. rest ] refl

either : (a b : Bool) (v : RowVal) → or_else (cond a (Some v) None) (cond b (Some v) None) ≡ cond (a || b) (Some v) None
either true b v = refl
either false b v = refl

joined : (test done : Row → Bool) (q : RowKey) (o : Option RowVal) → or_else (kept test q o) (kept done q o) ≡ kept (λ row. test row || done row) q o
joined test done q None = refl
joined test done q (Some v) = either (test (q, v)) (done (q, v)) v

-- One list: where other lists were written before, the book then has its rows too.
pub list_added : (list : RowList) (es : List Row) (done : Row → Bool) (m : Rows) → AreApart es → AllByRecursion (ReadsBack list) (rows_of list es) → ((row : Row) → is_in list row.1 ≡ true → done row ≡ false) → HasThose es done m
    → (after : Rows) × (add_entries Three list (items_data (rows_of list es)) m ≡ Ok after) × HasThose es (λ row. is_in list row.1 || done row) after
list_added list es done m a h apart has =
    let rs = rows_of list es in
    let rs_apart = apart_filter (λ row. is_in list row.1) es a in
    let absent = weaker (λ x. (is_in list x.1 ≡ true) × (find key_cmp x.0 es ≡ Some x.1)) (λ x. map.get m x.0 ≡ None) rs
    (λ x there. has x.0 ∙ ap (kept done x.0) there.1 ∙ ap (λ b. cond b (Some x.1) None) (apart x there.0)) (in_list (λ row. is_in list row.1) es a) in (
      overlay m rs,
      added list rs m h (apart_new rs m rs_apart absent),
      λ q. got rs m q rs_apart ∙ ap (λ o. or_else o (map.get m q)) (found_in (λ row. is_in list row.1) q es a) ∙ ap (or_else (kept (λ row. is_in list row.1) q (find key_cmp q es))) (has q)
          ∙ joined (λ row. is_in list row.1) done q (find key_cmp q es),
    )

kept_all : (test : Row → Bool) (q : RowKey) (o : Option RowVal) → ((row : Row) → test row ≡ true) → kept test q o ≡ o
kept_all test q None all = refl
kept_all test q (Some v) all = ap (λ b. cond b (Some v) None) (all (q, v))

pub kept_none : (q : RowKey) (o : Option RowVal) → kept (λ _. false) q o ≡ None
kept_none q None = refl
kept_none q (Some v) = refl

or_none : (o : Option RowVal) → or_else o None ≡ o
or_none None = refl
or_none (Some v) = refl

-- what is found after rows that are apart were written into an empty book
found_there : (es : List Row) (q : RowKey) → AreApart es → map.get (overlay map.empty es) q ≡ find key_cmp q es
found_there es q apart = got es map.empty q apart ∙ ap (or_else (find key_cmp q es)) (map.get-empty key_cmp q) ∙ or_none _

-- the book that has all rows is that into which they were written
pub all_there : (es : List Row) (m : Rows) (test : Row → Bool) → ((row : Row) → test row ≡ true) → AreApart es → HasThose es test m → m ≡ overlay map.empty es
all_there es m test all apart has =
    map.same_map key_cmp_total key_cmp_antisymmetric m (overlay map.empty es) (λ q. has q ∙ kept_all test q _ all ∙ sym (found_there es q apart))

-- a book's rows make the book
pub book_there : (rows : Rows) → overlay map.empty (map.entries rows) ≡ rows
book_there rows =
    map.same_map key_cmp_total key_cmp_antisymmetric (overlay map.empty (map.entries rows)) rows
    (λ q. found_there (map.entries rows) q (sorted_apart (map.entries rows) (map.entries_sorted rows)) ∙ sym (map.get-entries rows q))

-- ---- rows that are new when they are written

-- whoever is there stands not among them
unmet : (q : RowKey) (v : RowVal) (rs : List Row) (m : Rows) → map.get m q ≡ Some v → AreNew m rs → find key_cmp q rs ≡ None
unmet q v [] m has new = refl
unmet q v (r ∷ rs) m has new =
    let still : (o : Ordering) → key_cmp q r.0 ≡ o → is_eq o ≡ false → map.get (map.insert m r.0 r.1) q ≡ Some v = λ o is differ.
    map.get-insert key_cmp_total m r.0 r.1 q ∙ ap (λ t. cond (is_eq t) (Some r.1) (map.get m q)) is ∙ ap (λ t. cond t (Some r.1) (map.get m q)) differ ∙ has in
    elim (key_cmp q r.0) as (λ o. key_cmp q r.0 ≡ o → cond (is_eq o) (Some r.1) (find key_cmp q rs) ≡ None) [
      | Less ↦ λ is. unmet q v rs (map.insert m r.0 r.1) (still Less is refl) new.1
      | Equal ↦ λ is. absurd (none-some v (sym new.0 ∙ ap (map.get m) (sym (key_cmp_antisymmetric q r.0 is)) ∙ has))
      | Greater ↦ λ is. unmet q v rs (map.insert m r.0 r.1) (still Greater is refl) new.1
    ] refl

-- so each has a key of its own
pub new_apart : (rs : List Row) (m : Rows) → AreNew m rs → AreApart rs
new_apart [] m new = tt
new_apart (r ∷ rs) m new =
    let there : map.get (map.insert m r.0 r.1) r.0 ≡ Some r.1 =
    map.get-insert key_cmp_total m r.0 r.1 r.0 ∙ ap (λ o. cond (is_eq o) (Some r.1) (map.get m r.0)) (tied_itself key_cmp_total r.0) in (
      unmet r.0 r.1 rs (map.insert m r.0 r.1) there new.1,
      new_apart rs (map.insert m r.0 r.1) new.1,
    )
