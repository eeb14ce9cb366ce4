use Rattle.std.proofs.Common.{◌≡◌, Bool, Option, Some, IsTrue, sym, ap, ◌∙◌}
use Rattle.issuer_rows.proofs.KeyLaws.{key_eq_decides}
use Rattle.issuer_rows.proofs.book.stands_at.Goals as goal
use Rattle.issuer_rows.specs.RowKey.{key_eq}
use Rattle.issuer_rows.specs.declared.row_key.RowKey.{RowKey}
use Rattle.issuer_rows.specs.declared.row_val.RowVal.{RowVal}

-- a row that is there under an equal key is there under this one
stands : (same : Bool) (there key : RowKey) (val : RowVal) (at : Option (RowKey × RowVal)) → same ≡ key_eq there key → Some (there, val) ≡ at → IsTrue same
    → (x : RowVal) × (at ≡ Some (key, x))
stands same there key val at is found h = (val, sym found ∙ ap (λ (k : RowKey). Some (k, val)) ((key_eq_decides there key).0 (sym is ∙ h)))

pub returns-in-Some-clause-there : goal.returns-in-Some-clause-there
returns-in-Some-clause-there c = stands c.eq.result c.in-Some.there.now c.args.key.now c.in-Some.field-0-1.now _ c.eq.ensures c.in-Some.ensures.entry
