use Rattle.std.proofs.Common.{◌≡◌, List, ap, sym, subst, ◌∙◌}
use Rattle.std.proofs.lemmas.List.Elements.{same_from_all_zip}
use Rattle.std.specs.FinMap as map
use Rattle.issuer_rows.specs.Book.{AreOfKind}
use Rattle.issuer_rows.specs.RowKey.{key_cmp}
use Rattle.issuer_rows.specs.declared.row_key.RowKey.{RowKey}
use Rattle.issuer_rows.specs.declared.row_val.RowVal.{RowVal}
use Rattle.issuer_rows.proofs.book.Book.copy.Goals as goal

same_rows : (c : goal.In_ok-clone) → c.in_ok-clone.field-0.entries ≡ c.self.inside.rows.entries
same_rows c = same_from_all_zip _ _ _ c.in_ok-clone.ensures.cases (λ p q same i. (same.0 i, same.1 i))

pub invariant_of-result : goal.invariant_of-result
invariant_of-result c = subst AreOfKind (sym (same_rows c)) c.self.invariant

pub returns : goal.returns
returns c = ap (λ (rows : List (RowKey × RowVal)). map.from_entries {R = key_cmp} rows) (same_rows c) ∙ c.self.view_is
