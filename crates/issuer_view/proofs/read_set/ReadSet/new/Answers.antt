use Rattle.std.proofs.Common.{Option, refl}
use Rattle.issuer_rows.specs.declared.row_val.RowVal.{RowVal}
use Rattle.issuer_view.proofs.ListLaws.{once_none}
use Rattle.issuer_view.proofs.read_set.ReadSet.new.Goals as goal

pub invariant_of-result : goal.invariant_of-result
invariant_of-result c = rw (c.new.ensures, c.new-2.ensures) (tt, once_none (Option RowVal), λ _. refl)
