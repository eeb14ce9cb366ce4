-- The chains' links, seen as entries by place.
use Rattle.std.proofs.Common.{◌≡◌, ◌≢◌, ℕ, suc, ◌+◌, ◌≤◌, Bool, true, false, cond, List, [], ◌∷◌, ◌++◌, length, filter, Option, Some, None, refl, sym, ap, ◌∙◌, subst, inl, inr, Ordering, Less, Equal, Greater, arith}
use Rattle.std.proofs.lemmas.Bool.{cases_eq}
use Rattle.std.proofs.lemmas.Cmp.{tied_itself}
use Rattle.std.proofs.lemmas.Option.{none-some}
use Rattle.std.specs.Cmp.{IsTotalOrder, then_total, on_total, nat_cmp_total}
use Rattle.std.specs.FinMap as finite
use Rattle.std.specs.Ordering.{nat_cmp, ordering_then, is_eq, eq_by_cmp, match_ordering}
use Rattle.issuer_rows.proofs.KeyLaws.{key_cmp_total, key_cmp_antisymmetric, key_eq_decides}
use Rattle.issuer_words.specs.Words.{RowKey, key_cmp, key_eq}
use Rattle.issuer_view.specs.Words.{IsOnceEach, value_in}
use Rattle.stm_memory.specs.Chains.{AreInOrder, Chain, Chains, found, held_of, links_in, stands}
use Rattle.stm_memory.specs.Resolves.{row_count}
use Rattle.stm_memory.specs.declared.link.Link.{Link}
use Rattle.stm_memory.proofs.ChainLaws.{found_none}
use Rattle.stm_memory.proofs.ListLaws.{tied}
use Rattle.stm_memory.proofs.RowLaws.{rest_once, rows_cases, key_other}
use Rattle.stm_memory.specs.Entries.{Held, Place, place_cmp, place_of, held}
use Rattle.stm_memory.specs.Memory.{placed, placed_links}

pub place_cmp_total : IsTotalOrder place_cmp
place_cmp_total = then_total (on_total (λ p. p.row) key_cmp_total) (on_total (λ p. p.index) nat_cmp_total)

-- two orders tie together only where each ties
then_parts : (r o : Ordering) → ordering_then r o ≡ Equal → (r ≡ Equal) × (o ≡ Equal)
then_parts Less o e = (e, absurd (cc))
then_parts Equal o e = (refl, e)
then_parts Greater o e = (e, absurd (cc))

pub place_cmp_antisymmetric : finite.IsAntisymmetric place_cmp
place_cmp_antisymmetric a b e =
    let parts = then_parts (key_cmp a.row b.row) (nat_cmp a.index b.index) e in
    let rows = key_cmp_antisymmetric a.row b.row parts.0 in
    let indexes = finite.nat_cmp-IsAntisymmetric a.index b.index parts.1 in
    λ i. record { row = rows i; index = indexes i }

-- two places tie where they are one
ties_itself : (p : Place) → eq_by_cmp place_cmp p p ≡ true
ties_itself p = ap is_eq (tied_itself place_cmp_total p)

ties_not : (p q : Place) → p ≢ q → eq_by_cmp place_cmp p q ≡ false
ties_not p q ne = elim (eq_by_cmp place_cmp p q) as (λ t. eq_by_cmp place_cmp p q ≡ t → eq_by_cmp place_cmp p q ≡ false) [ true ↦ λ t. absurd (ne (place_cmp_antisymmetric p q (tied _ t))) | false ↦ λ f. f ] refl

first_of : Option Held → Option Held → Option Held
first_of None other = other
first_of (Some x) other = Some x

find_append : (q : Place) (xs ys : List (Place × Held)) → finite.find place_cmp q (xs ++ ys) ≡ first_of (finite.find place_cmp q xs) (finite.find place_cmp q ys)
unfolding first_of
find_append q [] ys = refl
find_append q (x ∷ xs) ys =
    ap (cond (eq_by_cmp place_cmp q x.0) (Some x.1)) (find_append q xs ys)
    ∙ elim (eq_by_cmp place_cmp q x.0) as (λ b. cond b (Some x.1) (first_of (finite.find place_cmp q xs) (finite.find place_cmp q ys)) ≡ first_of (cond b (Some x.1) (finite.find place_cmp q xs)) (finite.find place_cmp q ys)) [ true ↦ refl | false ↦ refl ]

-- of the row's own links, the one at the index
find_own : (row : RowKey) (links : List Link) (i : ℕ) → finite.find place_cmp (place_of row i) (placed_links row links) ≡ found links i
find_own row [] i = refl
find_own row (link ∷ links) i =
    ap (cond (eq_by_cmp place_cmp (place_of row i) (place_of row link.index)) (Some (held_of link))) (find_own row links i)
    ∙ elim (cases_eq link.index i) [
      | inl same ↦
          ap (λ (b : Bool). cond b (Some (held_of link)) (found links i)) (ap (λ (n : ℕ). eq_by_cmp place_cmp (place_of row i) (place_of row n)) same ∙ ties_itself (place_of row i))
          ∙ sym (ap (λ (b : Bool). cond b (Some (held_of link)) (found links i)) ((Rattle.stm_memory.proofs.ChainLaws.same_decides link.index i).1 same))
      | inr ne ↦
          ap (λ (b : Bool). cond b (Some (held_of link)) (found links i)) (ties_not (place_of row i) (place_of row link.index) (λ e. ne (sym (ap (λ (p : Place). p.index) e))))
          ∙ sym (ap (λ (b : Bool). cond b (Some (held_of link)) (found links i)) (Rattle.stm_memory.proofs.ChainLaws.test_other link.index i ne))
    ]

-- of another row's links, none
find_other : (row other : RowKey) (links : List Link) (i : ℕ) → row ≢ other → finite.find place_cmp (place_of row i) (placed_links other links) ≡ None
find_other row other [] i ne = refl
find_other row other (link ∷ links) i ne =
    ap (λ (b : Bool). cond b (Some (held_of link)) (finite.find place_cmp (place_of row i) (placed_links other links))) (ties_not (place_of row i) (place_of other link.index) (λ e. ne (ap (λ (p : Place). p.row) e)))
    ∙ find_other row other links i ne

-- a row that comes first comes no more
none_after : (c : RowKey × Chain) (cs : Chains) (row : RowKey) → IsOnceEach (c ∷ cs) → row ≡ c.0 → value_in cs row ≡ None
none_after c cs row once same = Rattle.stm_memory.proofs.ListLaws.none_later c cs row once same

met : (c : RowKey × Chain) (cs : Chains) (row : RowKey) → row ≡ c.0 → value_in (c ∷ cs) row ≡ Some c.1
met c cs row same = ap (λ (b : Bool). cond b (Some c.1) (value_in cs row)) ((key_eq_decides row c.0).1 same)

passed : (c : RowKey × Chain) (cs : Chains) (row : RowKey) → row ≢ c.0 → value_in (c ∷ cs) row ≡ value_in cs row
passed c cs row ne = ap (λ (b : Bool). cond b (Some c.1) (value_in cs row)) (key_other row c.0 ne)

none_last : (o : Option Held) → first_of o None ≡ o
unfolding first_of
none_last None = refl
none_last (Some x) = refl

find_placed : (chains : Chains) (row : RowKey) (i : ℕ) → IsOnceEach chains → finite.find place_cmp (place_of row i) (placed chains) ≡ stands chains row i
unfolding first_of
find_placed [] row i once = refl
find_placed (c ∷ cs) row i once =
    find_append (place_of row i) (placed_links c.0 c.1.links) (placed cs)
    ∙ ap (first_of (finite.find place_cmp (place_of row i) (placed_links c.0 c.1.links))) (find_placed cs row i (rest_once c cs once))
    ∙ elim (rows_cases row c.0) [
      | inl same ↦
          ap (λ (o : Option Chain). first_of (finite.find place_cmp (place_of row i) (placed_links c.0 c.1.links)) (found (links_in o) i)) (none_after c cs row once same)
          ∙ none_last (finite.find place_cmp (place_of row i) (placed_links c.0 c.1.links))
          ∙ ap (λ (r : RowKey). finite.find place_cmp (place_of r i) (placed_links c.0 c.1.links)) same
          ∙ find_own c.0 c.1.links i
          ∙ sym (ap (λ (o : Option Chain). found (links_in o) i) (met c cs row same))
      | inr ne ↦
          ap (λ (o : Option Held). first_of o (stands cs row i)) (find_other row c.0 c.1.links i ne)
          ∙ sym (ap (λ (o : Option Chain). found (links_in o) i) (passed c cs row ne))
    ]

-- the entry at a place is the link of the row's chain
pub held_placed : (chains : Chains) (row : RowKey) (i : ℕ) → IsOnceEach chains → held (finite.from_entries (placed chains)) row i ≡ stands chains row i
held_placed chains row i once = finite.get-from_entries place_cmp_total (placed chains) (place_of row i) ∙ find_placed chains row i once

-- ---- how many entries a row has

counted : RowKey → List (Place × Held) → ℕ
counted row es = length (filter (λ e. key_eq row e.0.row) es)

one : RowKey → Place → ℕ
one row place = cond (key_eq row place.row) 1 0

count_more : (row : RowKey) (e : Place × Held) (es : List (Place × Held)) → counted row (e ∷ es) ≡ one row e.0 + counted row es
unfolding counted one
count_more row e es =
    elim (key_eq row e.0.row) as (λ b. length (cond b (e ∷ filter (λ x. key_eq row x.0.row) es) (filter (λ x. key_eq row x.0.row) es)) ≡ cond b 1 0 + length (filter (λ x. key_eq row x.0.row) es)) [ true ↦ omega arith | false ↦ omega arith ]

put_count : (row : RowKey) (k : Place) (h : Held) (es : List (Place × Held)) → (counted row es ≤ counted row (finite.put place_cmp k h es)) × (finite.find place_cmp k es ≡ None → counted row (finite.put place_cmp k h es) ≡ one row k + counted row es)
put_count row k h [] = let more = count_more row (k, h) [] in (omega arith, λ none. more)
put_count row k h (e ∷ es) =
    let before = count_more row e es in
    elim (place_cmp k e.0) as (λ r. place_cmp k e.0 ≡ r → (counted row (e ∷ es) ≤ counted row (match_ordering r ((k, h) ∷ e ∷ es) ((e.0, h) ∷ es) (e ∷ finite.put place_cmp k h es))) × (finite.find place_cmp k (e ∷ es) ≡ None → counted row (match_ordering r ((k, h) ∷ e ∷ es) ((e.0, h) ∷ es) (e ∷ finite.put place_cmp k h es)) ≡ one row k + counted row (e ∷ es))) [
      | Less ↦ λ t. let more = count_more row (k, h) (e ∷ es) in (omega arith, λ none. more)
      | Equal ↦ λ t. let same = count_more row (e.0, h) es in (omega arith, λ none. absurd (none-some e.1 (sym none ∙ ap (λ (o : Ordering). cond (is_eq o) (Some e.1) (finite.find place_cmp k es)) t)))
      | Greater ↦ λ t.
          let rest = put_count row k h es in
          let after = count_more row e (finite.put place_cmp k h es) in
          (let l = rest.0 in omega arith, λ none. let more = rest.1 (sym (ap (λ (o : Ordering). cond (is_eq o) (Some e.1) (finite.find place_cmp k es)) t) ∙ none) in omega arith)
    ] refl

entries_count : (es : List (Place × Held)) (row : RowKey) → row_count (finite.from_entries es) row ≡ counted row (finite.entries (finite.from_entries {R = place_cmp} es))
unfolding counted
entries_count es row = refl

-- one more entry: never fewer of the row, and one more where its place is new
more_count : (row : RowKey) (e : Place × Held) (es : List (Place × Held)) → (row_count (finite.from_entries es) row ≤ row_count (finite.from_entries (e ∷ es)) row) × (finite.find place_cmp e.0 es ≡ None → row_count (finite.from_entries (e ∷ es)) row ≡ one row e.0 + row_count (finite.from_entries es) row)
more_count row e es =
    let counts = put_count row e.0 e.1 (finite.entries (finite.from_entries {R = place_cmp} es)) in
    let is = ap (counted row) (finite.entries-insert place_cmp_total (finite.from_entries es) e.0 e.1) in
    let before = entries_count es row in
    let after = entries_count (e ∷ es) row in
    (let l = counts.0 in omega arith, λ none. let l = counts.1 (sym (finite.get-entries (finite.from_entries es) e.0) ∙ finite.get-from_entries place_cmp_total es e.0 ∙ none) in omega arith)

-- the row's own links are so many of its entries
own_count : (row : RowKey) (links : List Link) (rest : List (Place × Held)) → AreInOrder links → ((i : ℕ) → finite.find place_cmp (place_of row i) rest ≡ None) → length links ≤ row_count (finite.from_entries (placed_links row links ++ rest)) row
unfolding first_of one
own_count row [] rest order none = omega arith
own_count row (link ∷ links) rest order none =
    let after : AreInOrder links = λ i j d l m. order (suc i) (suc j) d (omega arith) (omega arith) in
    let fewer = own_count row links rest after none in
    let absent : found links link.index ≡ None = found_none links link.index (λ k d l e. let before = order 0 (suc k) d (omega arith) (omega arith) in omega arith) in
    let new = find_append (place_of row link.index) (placed_links row links) rest ∙ ap (λ (o : Option Held). first_of o (finite.find place_cmp (place_of row link.index) rest)) (find_own row links link.index ∙ absent) ∙ none link.index in
    let more = (more_count row (place_of row link.index, held_of link) (placed_links row links ++ rest)).1 new in
    let first : one row (place_of row link.index) ≡ 1 = ap (λ (b : Bool). cond b 1 0) ((key_eq_decides row row).1 refl) in
    omega arith

-- entries of others take none away
others_count : (row other : RowKey) (links : List Link) (rest : List (Place × Held)) → row_count (finite.from_entries rest) row ≤ row_count (finite.from_entries (placed_links other links ++ rest)) row
others_count row other [] rest = omega arith
others_count row other (link ∷ links) rest =
    let fewer = others_count row other links rest in
    let more = (more_count row (place_of other link.index, held_of link) (placed_links other links ++ rest)).0 in
    omega arith

-- a row has no fewer entries than its chain has links
pub chain_count : (chains : Chains) (row : RowKey) → IsOnceEach chains → AreInOrder (links_in (value_in chains row)) → length (links_in (value_in chains row)) ≤ row_count (finite.from_entries (placed chains)) row
chain_count [] row once order = omega arith
chain_count (c ∷ cs) row once order =
    elim (rows_cases row c.0) [
      | inl same ↦
          let chain = met c cs row same in
          subst (λ (o : Option Chain). length (links_in o) ≤ row_count (finite.from_entries (placed (c ∷ cs))) row) (sym chain)
          (subst (λ (r : RowKey). length c.1.links ≤ row_count (finite.from_entries (placed (c ∷ cs))) r) (sym same)
          (own_count c.0 c.1.links (placed cs) (subst (λ (o : Option Chain). AreInOrder (links_in o)) chain order)
          (λ i. find_placed cs c.0 i (rest_once c cs once) ∙ ap (λ (o : Option Chain). found (links_in o) i) (none_after c cs c.0 once refl))))
      | inr ne ↦
          let chain = passed c cs row ne in
          let fewer = chain_count cs row (rest_once c cs once) (subst (λ (o : Option Chain). AreInOrder (links_in o)) chain order) in
          let more = others_count row c.0 c.1.links (placed cs) in
          let same = ap (λ (o : Option Chain). length (links_in o)) chain in
          omega arith
    ]
