use Rattle.std.proofs.Common.{◌≡◌, ◌<◌, ℕ, false, get_or}
use Rattle.issuer_rows.specs.RowKey.{key_eq}
use Rattle.stm_core.specs.declared.read.Read.{Read}
use Rattle.stm_core.proofs.log.Log.find.Given as goal

abbrev pub invariant-loop-place : goal.invariant-loop-place
invariant-loop-place l = (j : ℕ) (d : Read) → j < l.place → key_eq l.row (get_or l.self-inside.few.items j d).row ≡ false
