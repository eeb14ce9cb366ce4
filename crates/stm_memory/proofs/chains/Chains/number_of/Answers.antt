use Rattle.std.proofs.Common.{◌≡◌, IfSome, IfNone, None, Some, subst}
use Rattle.stm_memory.proofs.RowLaws.{number_found, number_missed}
use Rattle.stm_memory.specs.Chains.{Chains, row_at}
use Rattle.issuer_view.specs.RowSets.{value_in}
use Rattle.stm_memory.proofs.chains.Chains.number_of.Goals as goal

pub returns-in-None-clause-found : goal.returns-in-None-clause-found
returns-in-None-clause-found c =
    subst (λ (es : Chains). IfSome c.get_index_of.result (λ n. row_at es n ≡ Some c.args.row.now)) c.self.view_is
    (number_found c.self.inside.rows.entries c.args.row.now c.get_index_of.result c.get_index_of.ensures.index)

pub returns-in-None-clause-absent : goal.returns-in-None-clause-absent
returns-in-None-clause-absent c =
    subst (λ (es : Chains). IfNone c.get_index_of.result (value_in es c.args.row.now ≡ None)) c.self.view_is
    (number_missed c.self.inside.rows.entries c.args.row.now c.get_index_of.result c.get_index_of.ensures.found)
