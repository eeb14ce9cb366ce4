use Rattle.std.proofs.Common.{refl, arith}
use Rattle.stm_memory.proofs.ChainLaws.{nothing_below, last_seen}
use Rattle.stm_memory.proofs.SeenLaws.{seen_link}
use Rattle.stm_memory.specs.Chains.{found}
use Rattle.stm_memory.specs.declared.link.Link.{Link}
use Rattle.stm_memory.proofs.chain.link_before.Goals as goal

pub returns-then-place-eq0 : goal.returns-then-place-eq0
returns-then-place-eq0 c = nothing_below c.args.links.now c.args.index (λ k d m. c.requires.above k d (omega arith) m)

pub returns : goal.returns
returns c =
    let link : Link = c.index-links-place.result in
    let some = c.if-place-eq0.false in
    let seen = last_seen c.args.links.now c.args.links.now c.args.place c.args.index link c.requires.order (omega arith) c.requires.within c.index-links-place.is c.requires.below c.requires.above refl in
    seen_link (found c.args.links.now) c.args.index link seen.0 seen.1 seen.2
