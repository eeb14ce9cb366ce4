use Rattle.std.proofs.Common.{◌<◌, List, ◌∙◌, ap, sym, subst}
use Rattle.std.proofs.lemmas.List.Quantifiers.{all_pairs_remove}
use Rattle.stm_memory.proofs.ChainLaws.{remove_own, remove_other, insert_new}
use Rattle.stm_memory.specs.Chains.{AreInOrder, Chain, FitsAt, StandsAt, found}
use Rattle.stm_memory.specs.declared.link.Link.{Link}
use Rattle.stm_memory.proofs.chain.Chain.take_out.Goals as goal

pub invariant_of-self : goal.invariant_of-self
invariant_of-self c =
    let stands = subst (λ (links : List Link). StandsAt links c.args.index c.in-Ok.place) c.as_slice.ensures c.in-Ok.ensures.there in
    subst AreInOrder (sym c.remove.ensures.items) (all_pairs_remove (λ link later. link.index < later.index) c.self.inside.links.items c.in-Ok.place stands.0 c.self.invariant)

pub returns-in-Ok-clause-own : goal.returns-in-Ok-clause-own
returns-in-Ok-clause-own c =
    let stands = subst (λ (links : List Link). StandsAt links c.args.index c.in-Ok.place) c.as_slice.ensures c.in-Ok.ensures.there in
    rw c.remove.ensures.items (remove_own c.self.inside.links.items c.in-Ok.place c.args.index c.self.invariant stands)

pub returns-in-Ok-clause-others : goal.returns-in-Ok-clause-others
returns-in-Ok-clause-others c i ne =
    let stands = subst (λ (links : List Link). StandsAt links c.args.index c.in-Ok.place) c.as_slice.ensures c.in-Ok.ensures.there in
    rw c.remove.ensures.items (remove_other c.self.inside.links.items c.in-Ok.place i c.args.index stands ne ∙ ap (λ (x : Chain). found x.links i) c.self.view_is)

pub returns-in_default-clause-own : goal.returns-in_default-clause-own
returns-in_default-clause-own c =
    let fits = subst (λ (links : List Link). FitsAt links c.args.index c.in_default.field-0) c.as_slice.ensures c.in_default.ensures.absent in
    sym (ap (λ (x : Chain). found x.links c.args.index) c.self.view_is) ∙ insert_new c.self.inside.links.items c.in_default.field-0 c.args.index fits
