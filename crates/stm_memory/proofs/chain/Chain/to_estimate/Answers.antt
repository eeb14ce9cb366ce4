use Rattle.std.proofs.Common.{◌≡◌, List, None, get_or, option_map, ◌∙◌, ap, sym, subst}
use Rattle.stm_memory.proofs.ChainLaws.{estimated_own, set_other, insert_new, written_over}
use Rattle.stm_memory.specs.Words.{Chain, FitsAt, StandsAt, estimate_of, found}
use Rattle.stm_memory.specs.declared.link.Link.{Link}
use Rattle.stm_memory.proofs.chain.Chain.to_estimate.Goals as goal

pub returns-in-Ok-clause-own : goal.returns-in-Ok-clause-own
returns-in-Ok-clause-own c =
    let links = c.self.inside.links.items in
    let place = c.in-Ok.place in
    let link : Link = get_or c.as_mut_slice.result.now place c.index-as_mut_slice-place.result in
    let stands = subst (λ (xs : List Link). StandsAt xs c.args.index place) c.as_slice.ensures c.in-Ok.ensures.there in
    let is : link ≡ get_or links place link = ap (λ (xs : List Link). get_or xs place c.index-as_mut_slice-place.result) c.as_mut_slice.ensures.value ∙ ap (get_or links place) c.index-as_mut_slice-place.is in
    let own : link.index ≡ c.args.index = ap (λ (x : Link). x.index) is ∙ stands.1 link in
    ap (λ (xs : List Link). found xs c.args.index) (written_over links c.as_mut_slice.result.now place (record link { value = None }) c.as_mut_slice.ensures.value)
    ∙ subst (λ i. found (Rattle.std.proofs.Common.set links place (record link { value = None })) i ≡ option_map estimate_of (found c.args.self.now.links i)) own
    (estimated_own links c.args.self.now.links place link c.self.invariant (stands.0, λ d. stands.1 d ∙ sym own) is (ap (λ (x : Chain). x.links) c.self.view_is))

pub returns-in-Ok-clause-others : goal.returns-in-Ok-clause-others
returns-in-Ok-clause-others c i ne =
    let links = c.self.inside.links.items in
    let place = c.in-Ok.place in
    let link : Link = get_or c.as_mut_slice.result.now place c.index-as_mut_slice-place.result in
    let stands = subst (λ (xs : List Link). StandsAt xs c.args.index place) c.as_slice.ensures c.in-Ok.ensures.there in
    let is : link ≡ get_or links place link = ap (λ (xs : List Link). get_or xs place c.index-as_mut_slice-place.result) c.as_mut_slice.ensures.value ∙ ap (get_or links place) c.index-as_mut_slice-place.is in
    let own : link.index ≡ c.args.index = ap (λ (x : Link). x.index) is ∙ stands.1 link in
    ap (λ (xs : List Link). found xs i) (written_over links c.as_mut_slice.result.now place (record link { value = None }) c.as_mut_slice.ensures.value)
    ∙ set_other links place (record link { value = None }) i (stands.0, λ d. stands.1 d ∙ sym own) (λ e. ne (e ∙ own))
    ∙ ap (λ (x : Chain). found x.links i) c.self.view_is

pub returns-in_default-clause-own : goal.returns-in_default-clause-own
returns-in_default-clause-own c =
    let fits = subst (λ (links : List Link). FitsAt links c.args.index c.in_default.field-0) c.as_slice.ensures c.in_default.ensures.absent in
    let none = sym (ap (λ (x : Chain). found x.links c.args.index) c.self.view_is) ∙ insert_new c.self.inside.links.items c.in_default.field-0 c.args.index fits in
    none ∙ sym (ap (option_map estimate_of) none)
