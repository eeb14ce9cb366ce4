use Rattle.std.proofs.Common.{IfSome, sym}
use Rattle.issuer_rows.specs.RowVal.{IsOfKind}
use Rattle.issuer_view.proofs.KindLaws.{suits_behind, standing_suits}
use Rattle.issuer_view.proofs.read_set.ReadSet.row.Goals as goal

pub returns-clause-kind : goal.returns-clause-kind
returns-clause-kind c =
    standing_suits (λ k row. IfSome row (IsOfKind k)) c.self.inside.more _ _
    (suits_behind (λ k row. IfSome row (IsOfKind k)) c.self.inside.few c.self.inside.more c.self.invariant.0)
    (sym c.in-Some.ensures)
