use Rattle.std.proofs.Common.{◌≡◌, ◌<◌, ℕ, Option, Some, None, IfSome, IsSome, ap, sym, subst, ◌∙◌}
use Rattle.stm_memory.proofs.RowLaws.{chain_here}
use Rattle.stm_memory.specs.Chains.{Chain, Chains, found, links_in, row_at, stands}
use Rattle.issuer_words.specs.Words.{RowKey}
use Rattle.issuer_view.specs.Words.{value_in}
use Rattle.stm_memory.proofs.chains.Chains.superseded.Goals as goal

pub returns : goal.returns
returns c =
    let es : Chains = c.self.inside.rows.entries in
    elim c.superseded.result as (λ o. IfSome o (λ first. (next : ℕ) × (first < next) × (next < c.args.index) × IsSome (found c.in-Some.chain.now.links next))
    → IfSome o (λ first. (row : RowKey) → row_at c.args.self.now c.args.number ≡ Some row → (next : ℕ) × (first < next) × (next < c.args.index) × IsSome (stands c.args.self.now row next))) [
      | None ↦ λ _. tt
      | Some first ↦ λ h row at.
          (let chain : Some c.in-Some.chain.now ≡ value_in es row =
          sym (chain_here es c.args.number (c.in-Some.field-0-0.now, c.in-Some.chain.now) row (sym c.in-Some.ensures.entry) c.in-Some.ensures.value (ap (λ (xs : Chains). row_at xs c.args.number) c.self.view_is ∙ at)) in
          (h.0, h.1, h.2, subst (λ (xs : Chains). IsSome (stands xs row h.0)) c.self.view_is (subst (λ (o : Option Chain). IsSome (found (links_in o) h.0)) chain h.3)))
    ] c.superseded.ensures
