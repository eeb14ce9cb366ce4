use Rattle.std.proofs.Common.{◌≡◌, ◌<◌, length, Some, Option, option_map, refl, ap, sym, subst, ◌∙◌}
use Rattle.stm_memory.proofs.RowLaws.{changed, changed-sound, row_there, rows-set, chain_at, estimate_of_kind}
use Rattle.stm_memory.specs.Words.{Chain, Chains, estimate_of, found, links_in, row_at, rows_of}
use Rattle.stm_memory.proofs.chains.Chains.to_estimate.Goals as goal

pub invariant_of-self : goal.invariant_of-self
invariant_of-self c =
    let es : Chains = c.self.inside.rows.entries in
    let at = row_there es c.args.number (subst (λ (xs : Chains). c.args.number < length xs) (sym c.self.view_is) c.requires) in
    changed-sound es _ at.0 c.args.index (option_map estimate_of (found c.in-Some.chain.now.links c.args.index)) c.self.invariant (changed es es c.args.number at.0 c.args.index c.in-Some.chain.now c.to_estimate.new.self _ c.self.invariant at.1 c.in-Some.ensures.value c.to_estimate.ensures.own c.to_estimate.ensures.others refl) (rows-set es c.args.number c.to_estimate.new.self) (estimate_of_kind at.0 (found c.in-Some.chain.now.links c.args.index))

pub returns-clause-changed : goal.returns-clause-changed
returns-clause-changed c row at =
    let es : Chains = c.self.inside.rows.entries in
    let here = subst (λ (xs : Chains). row_at xs c.args.number ≡ Some row) (sym c.self.view_is) at in
    let chain = chain_at es c.args.number row c.in-Some.chain.now c.self.invariant.once here c.in-Some.ensures.value in
    let own = c.to_estimate.ensures.own ∙ ap (λ (o : Option Chain). option_map estimate_of (found (links_in o) c.args.index)) (sym chain) ∙ ap (λ (xs : Chains). option_map estimate_of (Rattle.stm_memory.specs.Chains.stands xs row c.args.index)) c.self.view_is in
    changed es c.args.self.now c.args.number row c.args.index c.in-Some.chain.now c.to_estimate.new.self _ c.self.invariant here c.in-Some.ensures.value own c.to_estimate.ensures.others c.self.view_is

pub returns-clause-rows : goal.returns-clause-rows
returns-clause-rows c = rows-set c.self.inside.rows.entries c.args.number c.to_estimate.new.self ∙ ap rows_of c.self.view_is
