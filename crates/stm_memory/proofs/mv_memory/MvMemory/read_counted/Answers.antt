use Rattle.std.proofs.Common.{ap, sym, subst, ◌∙◌, arith}
use Rattle.stm_memory.proofs.Placed.{held_placed, chain_count}
use Rattle.stm_memory.proofs.SeenLaws.{seen_alike}
use Rattle.std.specs.Option.{option_copied}
use Rattle.stm_memory.specs.Words.{Memory, Resolves, held, row_count, seen_of, stands}
use Rattle.stm_memory.proofs.mv_memory.MvMemory.read_counted.Goals as goal

pub returns-clause-seen : goal.returns-clause-seen
returns-clause-seen c =
    subst (Resolves (held c.args.self.now.entries) c.args.row.now c.args.index) (sym c.seen_of.ensures)
    (seen_alike (stands c.self.inside.chains c.args.row.now) (held c.args.self.now.entries c.args.row.now) c.args.index (seen_of (option_copied c.counted_below-comparisons.result.0))
    (λ i. sym (held_placed c.self.inside.chains c.args.row.now i c.self.invariant.once) ∙ ap (λ (m : Memory). held m.entries c.args.row.now i) c.self.view_is) c.counted_below-comparisons.ensures.seen)

pub returns-clause-comparisons : goal.returns-clause-comparisons
returns-clause-comparisons c digits within =
    let more = chain_count c.self.inside.chains c.args.row.now c.self.invariant.once c.counted_below-comparisons.ensures.order in
    let same = ap (λ (m : Memory). row_count m.entries c.args.row.now) c.self.view_is in
    c.counted_below-comparisons.ensures.comparisons digits (omega arith)
