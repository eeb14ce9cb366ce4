use Rattle.std.proofs.Common.{◌≡◌, vec_len}
use Rattle.issuer_fold.specs.Formers.{AreFormersOfKind, AreThere, given_back}
use Rattle.issuer_fold.proofs.formers.give_back_each.Given as goal

-- the rows that are left are given back from here on
abbrev pub invariant-loop-key : goal.invariant-loop-key
invariant-loop-key l = record {
  same : given_back l.book l.left.items ≡ given_back l.fn.book l.fn.rows.items;
  there : AreThere l.book l.left.items;
  kinds : AreFormersOfKind l.left.items;
}

abbrev pub decreases-loop-key : goal.decreases-loop-key
decreases-loop-key l = vec_len l.left
