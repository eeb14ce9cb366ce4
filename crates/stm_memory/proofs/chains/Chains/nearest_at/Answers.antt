use Rattle.std.proofs.Common.{◌≡◌, Option, Some, ap, sym, subst, ◌∙◌}
use Rattle.stm_memory.proofs.RowLaws.{chain_here, seen_of_kind}
use Rattle.std.specs.Option.{option_copied}
use Rattle.stm_memory.specs.Chains.{Chain, Chains, found, links_in, row_at, seen_of, stands}
use Rattle.stm_memory.specs.Resolves.{IsNearestBelow, Resolves}
use Rattle.issuer_words.specs.Words.{RowKey}
use Rattle.issuer_view.specs.Words.{value_in}
use Rattle.stm_memory.proofs.chains.Chains.nearest_at.Goals as goal

-- the row's chain
chain_is : (c : goal.After-nearest_below) (row : RowKey) → row_at c.args.self.now c.args.number ≡ Some row → Some c.in-Some.chain.now ≡ value_in c.self.inside.rows.entries row
chain_is c row at =
    sym (chain_here c.self.inside.rows.entries c.args.number (c.in-Some.field-0-0.now, c.in-Some.chain.now) row (sym c.in-Some.ensures.entry) c.in-Some.ensures.value (ap (λ (es : Chains). row_at es c.args.number) c.self.view_is ∙ at))

seen_inside : (c : goal.After-nearest_below) (row : RowKey) → row_at c.args.self.now c.args.number ≡ Some row → Resolves (stands c.self.inside.rows.entries) row c.args.index (seen_of (option_copied c.nearest_below.result))
seen_inside c row at = subst (λ (o : Option Chain). IsNearestBelow (found (links_in o)) c.args.index (seen_of (option_copied c.nearest_below.result))) (chain_is c row at) c.nearest_below.ensures

pub returns-clause-seen : goal.returns-clause-seen
returns-clause-seen c row at = subst (λ (es : Chains). Resolves (stands es) row c.args.index (seen_of (option_copied c.nearest_below.result))) c.self.view_is (seen_inside c row at)

pub returns-clause-kind : goal.returns-clause-kind
returns-clause-kind c row at = seen_of_kind c.self.inside.rows.entries row c.args.index (seen_of (option_copied c.nearest_below.result)) c.self.invariant (seen_inside c row at)
