use Rattle.std.proofs.Common.{refl}
use Rattle.issuer_rows.specs.declared.row_val.RowVal.{RowVal}
use Rattle.issuer_view.proofs.ListLaws.{once_none}
use Rattle.issuer_view.proofs.write_set.WriteSet.clear.Goals as goal

pub invariant_of-self : goal.invariant_of-self
invariant_of-self c = rw (c.clear.ensures, c.clear-2.ensures) (tt, once_none RowVal, λ _. refl)
