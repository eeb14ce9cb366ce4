-- A row that was written and is given back what it was.
use Rattle.std.proofs.Common.{◌≡◌, Option, Some, None, true, false, cond, refl, sym, ap, ◌∙◌}
use Rattle.std.specs.FinMap as map
use Rattle.std.specs.Ordering.{eq_by_cmp}
use Rattle.issuer_rows.proofs.KeyLaws.{key_cmp_total, key_cmp_antisymmetric, key_eq_decides, same_test}
use Rattle.issuer_words.specs.Words.{RowKey, RowVal, Rows, key_cmp}
use Rattle.issuer_fold.specs.Former.{with_former}

-- what another value hid is seen again at its key, and nothing else was changed
same_again : (rows : Rows) (key q : RowKey) (row former : Option RowVal) → map.get rows key ≡ former
    → cond (eq_by_cmp key_cmp q key) former (cond (eq_by_cmp key_cmp q key) row (map.get rows q)) ≡ map.get rows q
same_again rows key q row former was =
    elim (eq_by_cmp key_cmp q key) as (λ t. eq_by_cmp key_cmp q key ≡ t → cond t former (cond t row (map.get rows q)) ≡ map.get rows q) [
      | true ↦ λ same. sym was ∙ ap (map.get rows) (sym ((key_eq_decides q key).0 (sym (same_test q key) ∙ same)))
      | false ↦ λ _. refl
    ] refl

-- a row that was written over these, given back what it was among them
pub undone : (rows : Rows) (key : RowKey) (row : RowVal) → with_former (map.insert rows key row) key (map.get rows key) ≡ rows
undone rows key row =
    elim (map.get rows key) as (λ former. map.get rows key ≡ former → with_former (map.insert rows key row) key former ≡ rows) [
      | Some former ↦ λ was. map.same_map key_cmp_total key_cmp_antisymmetric _ _ (λ q.
          map.get-insert key_cmp_total (map.insert rows key row) key former q
          ∙ ap (cond (eq_by_cmp key_cmp q key) (Some former)) (map.get-insert key_cmp_total rows key row q)
          ∙ same_again rows key q (Some row) (Some former) was)
      | None ↦ λ was. map.same_map key_cmp_total key_cmp_antisymmetric _ _ (λ q.
          map.get-remove key_cmp_total (map.insert rows key row) key q
          ∙ ap (cond (eq_by_cmp key_cmp q key) None) (map.get-insert key_cmp_total rows key row q)
          ∙ same_again rows key q (Some row) None was)
    ] refl

-- a row that was written is there
pub there_now : (rows : Rows) (key : RowKey) (row : RowVal) → map.get (map.insert rows key row) key ≡ Some row
there_now rows key row =
    map.get-insert key_cmp_total rows key row key
    ∙ ap (λ t. cond t (Some row) (map.get rows key)) (same_test key key ∙ (key_eq_decides key key).1 refl)
