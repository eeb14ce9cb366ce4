-- A book that is seen through the rows that were written since.
use Rattle.std.proofs.Common.{◌≡◌, ◌≢◌, true, false, [], ◌∷◌, Option, Some, None, ◌⊎◌, inl, inr, refl, sym, ap, ◌∙◌, IsPermutation}
use Rattle.std.proofs.ByRecursion.{all_shuffled}
use Rattle.std.proofs.lemmas.List.Sorted.{IsPermutation-sym}
use Rattle.std.specs.FinMap as map
use Rattle.std.specs.FinMap.Entries.{find}
use Rattle.std.specs.List.{AllByRecursion}
use Rattle.issuer_rows.proofs.KeyLaws.{key_cmp_total, key_cmp_antisymmetric, key_eq_decides, same_test}
use Rattle.issuer_rows.proofs.ListedRows.{listed_found}
use Rattle.issuer_laws.proofs.Keys.{get-put, get-other, same_or_other}
use Rattle.issuer_words.specs.Words.{RowKey, RowVal, Rows, Writes, key_cmp, key_eq, overlay}
use Rattle.engine_parts.specs.TwoBooks.{first_of, joined}

none_found : (k : RowKey) (es : Writes) → AllByRecursion (λ e. k ≢ e.0) es → find key_cmp k es ≡ None
none_found k [] h = refl
none_found k (e ∷ es) h =
    elim (key_eq k e.0) as (λ t. key_eq k e.0 ≡ t → find key_cmp k (e ∷ es) ≡ None) [
      | true ↦ λ same. absurd (h.0 ((key_eq_decides k e.0).0 same))
      | false ↦ λ other. rw (same_test k e.0, other) (none_found k es h.1)
    ] refl

-- a row that isn't listed isn't there
none_listed : (m : Rows) (k : RowKey) → AllByRecursion (λ e. k ≢ e.0) (map.entries m) → map.get m k ≡ None
none_listed m k h = map.get-entries m k ∙ none_found k (map.entries m) h

-- ---- rows written over others

-- a row is as one of these was written, or none of them is its
abbrev IsSeen : Rows → Rows → Writes → RowKey → Type 0
IsSeen below own es k = (map.get (overlay below es) k ≡ map.get own k × ((v : RowVal) × (map.get own k ≡ Some v))) ⊎ (AllByRecursion (λ e. k ≢ e.0) es × (map.get (overlay below es) k ≡ map.get below k))

overlay_at : (below own : Rows) (es : Writes) (k : RowKey) → AllByRecursion (λ e. map.get own e.0 ≡ Some e.1) es → IsSeen below own es k
overlay_at below own [] k all = inr (tt, refl)
overlay_at below own (e ∷ es) k all =
    elim (overlay_at (map.insert below e.0 e.1) own es k all.1) [
      | inl found ↦ inl found
      | inr none ↦ elim (same_or_other k e.0) [
        | inl same ↦
            let own_row : map.get own k ≡ Some e.1 = ap (map.get own) same ∙ all.0 in
            inl (none.1 ∙ (ap (map.get (map.insert below e.0 e.1)) same ∙ get-put below e.0 e.1) ∙ sym own_row, (e.1, own_row))
        | inr apart ↦ inr ((apart, none.0), none.1 ∙ get-other below e.0 e.1 k apart)
      ]
    ]

overlay_seen : (below own : Rows) (es : Writes) (k : RowKey) → AllByRecursion (λ e. map.get own e.0 ≡ Some e.1) es → (AllByRecursion (λ e. k ≢ e.0) es → map.get own k ≡ None)
    → map.get (overlay below es) k ≡ first_of (map.get own k) (map.get below k)
overlay_seen below own es k all none_of =
    elim (overlay_at below own es k all) [
      | inl found ↦ found.0 ∙ found.1.1 ∙ sym (ap (λ (o : Option RowVal). first_of o (map.get below k)) found.1.1)
      | inr none ↦ none.1 ∙ sym (ap (λ (o : Option RowVal). first_of o (map.get below k)) (none_of none.0))
    ]

-- a row is seen as it was written, else as it is below
pub get_joined : (below own : Rows) (k : RowKey) → map.get (joined below own) k ≡ first_of (map.get own k) (map.get below k)
get_joined below own k = overlay_seen below own (map.entries own) k (listed_found own) (none_listed own k)

-- in whatever order the rows are written
pub joined_shuffled : (below own : Rows) (es : Writes) → IsPermutation (map.entries own) es → overlay below es ≡ joined below own
joined_shuffled below own es moves =
    map.same_map key_cmp_total key_cmp_antisymmetric _ _ (λ k.
    overlay_seen below own es k (all_shuffled (λ e. map.get own e.0 ≡ Some e.1) (map.entries own) es moves (listed_found own))
    (λ none. none_listed own k (all_shuffled (λ e. k ≢ e.0) es (map.entries own) (IsPermutation-sym (map.entries own) es moves) none))
    ∙ sym (get_joined below own k))

-- rows of a book that are listed in any order: to write them over another one gives the two joined, and each is found
pub to_write : (below own : Rows) (es left : Writes) → IsPermutation (map.entries own) es → left ≡ es → (overlay below left ≡ joined below own) × AllByRecursion (λ e. map.get own e.0 ≡ Some e.1) left
to_write below own es left moves all =
    rw all (joined_shuffled below own es moves, all_shuffled (λ e. map.get own e.0 ≡ Some e.1) (map.entries own) es moves (listed_found own))

-- one more row that is written
joined_insert : (below own : Rows) (k : RowKey) (v : RowVal) → joined below (map.insert own k v) ≡ map.insert (joined below own) k v
joined_insert below own k v =
    map.same_map key_cmp_total key_cmp_antisymmetric _ _ (λ q.
    get_joined below (map.insert own k v) q
    ∙ elim (same_or_other q k) [
      | inl same ↦
          ap (λ (o : Option RowVal). first_of o (map.get below q)) (ap (map.get (map.insert own k v)) same ∙ get-put own k v)
          ∙ sym (ap (map.get (map.insert (joined below own) k v)) same ∙ get-put (joined below own) k v)
      | inr apart ↦
          ap (λ (o : Option RowVal). first_of o (map.get below q)) (get-other own k v q apart)
          ∙ sym (get_joined below own q) ∙ sym (get-other (joined below own) k v q apart)
    ])

pub joined_overlay : (below own : Rows) (ws : Writes) → joined below (overlay own ws) ≡ overlay (joined below own) ws
joined_overlay below own [] = refl
joined_overlay below own (w ∷ ws) = joined_overlay below (map.insert own w.0 w.1) ws ∙ ap (λ (rows : Rows). overlay rows ws) (joined_insert below own w.0 w.1)

-- where nothing was written, the book is seen as it is
pub joined_nothing : (below : Rows) → joined below map.empty ≡ below
joined_nothing below =
    map.same_map key_cmp_total key_cmp_antisymmetric (joined below map.empty) below (λ k.
    get_joined below map.empty k ∙ ap (λ (o : Option RowVal). first_of o (map.get below k)) (map.get-empty key_cmp k))
