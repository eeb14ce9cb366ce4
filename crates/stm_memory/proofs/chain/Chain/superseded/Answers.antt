use Rattle.std.proofs.Common.{◌<◌, List, IsSome, ap, sym, subst, ◌∙◌, arith}
use Rattle.stm_memory.proofs.ChainLaws.{first_two}
use Rattle.stm_memory.specs.Chains.{AreInOrder, Chain, found}
use Rattle.stm_memory.specs.declared.link.Link.{Link}
use Rattle.stm_memory.proofs.chain.Chain.superseded.Goals as goal

pub returns-then-links-index : goal.returns-then-links-index
returns-then-links-index c =
    let links : List Link = c.as_slice-links.result.now in
    let next : Link = c.index-links-1.result in
    let some = c.if-links-gt1.true in
    let below = c.if-links-index.true in
    let same = ap (λ (x : Link). x.index) c.index-links-1.is in
    let two = first_two links c.index-links-0.result next (subst AreInOrder (sym c.as_slice-links.ensures) c.self.invariant) (omega arith) c.index-links-0.is c.index-links-1.is in (
      next.index,
      subst (λ n. n < next.index) (ap (λ (x : Link). x.index) c.index-links-0.is) two.0,
      omega arith,
      subst (λ (xs : List Link). IsSome (found xs next.index)) (c.as_slice-links.ensures ∙ ap (λ (x : Chain). x.links) c.self.view_is) two.1,
    )
