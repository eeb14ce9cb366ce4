use Rattle.std.proofs.Common.{◌≡◌, drop}
use Rattle.issuer_words.specs.Words.{Rows, overlay}
use Rattle.issuer_fold.specs.Formers.{LeadsBack}
use Rattle.issuer_fold.proofs.formers.Formers.put_each.Given as goal

-- the rows from this one on are left
abbrev pub invariant-loop-index : goal.invariant-loop-index
invariant-loop-index l = record {
  book : overlay l.book (drop l.index l.writes) ≡ overlay l.fn.book l.writes;
  back : (earlier : Rows) → LeadsBack l.fn.book l.fn.self earlier → LeadsBack l.book l.self earlier;
}
