use Rattle.std.proofs.Common.{List, Some, ◌∙◌, ap, sym, subst, refl}
use Rattle.std.proofs.lemmas.Bool.{false≢true}
use Rattle.std.proofs.lemmas.Option.{none-some}
use Rattle.stm_memory.proofs.ChainLaws.{found_at, set_own, set_other, set_order, insert_own, insert_other, insert_new, insert_order, written_over}
use Rattle.stm_memory.specs.Chains.{AreInOrder, Chain, FitsAt, StandsAt, found}
use Rattle.stm_memory.specs.declared.link.Link.{Link}
use Rattle.stm_memory.proofs.chain.Chain.put.Goals as goal

pub invariant_of-self : goal.invariant_of-self
invariant_of-self c =
    let link : Link = record { index = c.args.version.index; incarnation = c.args.version.incarnation; value = Some c.args.value.now } in
    let stands = subst (λ (links : List Link). StandsAt links c.args.version.index c.in-Ok.place) c.as_slice.ensures c.in-Ok.ensures.there in
    subst AreInOrder (sym (written_over c.self.inside.links.items c.as_mut_slice.result.now c.in-Ok.place link c.as_mut_slice.ensures.value)) (set_order c.self.inside.links.items c.in-Ok.place link c.self.invariant stands)

pub invariant_of-self-in-Err : goal.invariant_of-self-in-Err
invariant_of-self-in-Err c =
    let fits = subst (λ (links : List Link). FitsAt links c.args.version.index c.in-Err.place) c.as_slice.ensures c.in-Err.ensures.absent in
    subst AreInOrder (sym c.put_in.ensures) (insert_order c.self.inside.links.items c.in-Err.place (record { index = c.args.version.index; incarnation = c.args.version.incarnation; value = Some c.args.value.now }) c.self.invariant fits)

pub returns-in-Ok-clause-own : goal.returns-in-Ok-clause-own
returns-in-Ok-clause-own c =
    let link : Link = record { index = c.args.version.index; incarnation = c.args.version.incarnation; value = Some c.args.value.now } in
    let stands = subst (λ (links : List Link). StandsAt links c.args.version.index c.in-Ok.place) c.as_slice.ensures c.in-Ok.ensures.there in
    ap (λ (links : List Link). found links c.args.version.index) (written_over c.self.inside.links.items c.as_mut_slice.result.now c.in-Ok.place link c.as_mut_slice.ensures.value)
    ∙ set_own c.self.inside.links.items c.in-Ok.place link c.self.invariant stands

pub returns-in-Ok-clause-others : goal.returns-in-Ok-clause-others
returns-in-Ok-clause-others c i ne =
    let link : Link = record { index = c.args.version.index; incarnation = c.args.version.incarnation; value = Some c.args.value.now } in
    let stands = subst (λ (links : List Link). StandsAt links c.args.version.index c.in-Ok.place) c.as_slice.ensures c.in-Ok.ensures.there in
    ap (λ (links : List Link). found links i) (written_over c.self.inside.links.items c.as_mut_slice.result.now c.in-Ok.place link c.as_mut_slice.ensures.value)
    ∙ set_other c.self.inside.links.items c.in-Ok.place link i stands ne
    ∙ ap (λ (x : Chain). found x.links i) c.self.view_is

pub returns-in-Ok-clause-new : goal.returns-in-Ok-clause-new
returns-in-Ok-clause-new c =
    let stands = subst (λ (links : List Link). StandsAt links c.args.version.index c.in-Ok.place) c.as_slice.ensures c.in-Ok.ensures.there in
    let own = found_at c.self.inside.links.items c.args.version.index c.in-Ok.place (record { index = c.args.version.index; incarnation = c.args.version.incarnation; value = Some c.args.value.now }) c.self.invariant stands in
    (λ t. absurd (false≢true t), λ none. absurd (none-some _ (sym none ∙ sym (ap (λ (x : Chain). found x.links c.args.version.index) c.self.view_is) ∙ own)))

pub returns-in-Err-clause-own : goal.returns-in-Err-clause-own
returns-in-Err-clause-own c =
    let fits = subst (λ (links : List Link). FitsAt links c.args.version.index c.in-Err.place) c.as_slice.ensures c.in-Err.ensures.absent in
    rw c.put_in.ensures (insert_own c.self.inside.links.items c.in-Err.place (record { index = c.args.version.index; incarnation = c.args.version.incarnation; value = Some c.args.value.now }) fits)

pub returns-in-Err-clause-others : goal.returns-in-Err-clause-others
returns-in-Err-clause-others c i ne =
    rw c.put_in.ensures (insert_other c.self.inside.links.items c.in-Err.place (record { index = c.args.version.index; incarnation = c.args.version.incarnation; value = Some c.args.value.now }) i ne ∙ ap (λ (x : Chain). found x.links i) c.self.view_is)

pub returns-in-Err-clause-new : goal.returns-in-Err-clause-new
returns-in-Err-clause-new c =
    let fits = subst (λ (links : List Link). FitsAt links c.args.version.index c.in-Err.place) c.as_slice.ensures c.in-Err.ensures.absent in
    (λ t. sym (ap (λ (x : Chain). found x.links c.args.version.index) c.self.view_is) ∙ insert_new c.self.inside.links.items c.in-Err.place c.args.version.index fits, λ none. refl)
