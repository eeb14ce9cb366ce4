use Rattle.std.proofs.Common.{◌↔◌, drop}
use Rattle.std.specs.FinMap as map
use Rattle.issuer_rows.specs.Agreement.{Agrees}
use Rattle.split_state.proofs.agreement.agrees.Given as goal

-- it is left to look at the reads from this place on
abbrev pub invariant-loop-place : goal.invariant-loop-place
invariant-loop-place l = Agrees (drop l.place l.reads) (map.get l.book) ↔ Agrees l.reads (map.get l.book)
