use Rattle.std.proofs.Common.{◌≡◌, drop, map}
use Rattle.engine_parts.specs.TwoBooks.{joined_all}
use Rattle.engine_parts.proofs.joining.put_parts.Given as goal

-- the parts from this one on are left
abbrev pub invariant-loop-part : goal.invariant-loop-part
invariant-loop-part l = joined_all l.book (map (λ part. part.rows) (drop l.part-index l.decided)) ≡ joined_all l.fn.book (map (λ part. part.rows) l.decided)
