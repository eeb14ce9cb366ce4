use Rattle.std.proofs.Common.{Option, ap, sym, ◌∙◌}
use Rattle.stm_memory.proofs.Placed.{held_placed}
use Rattle.stm_memory.proofs.RowLaws.{row_within}
use Rattle.stm_memory.proofs.SeenLaws.{seen_alike}
use Rattle.std.specs.Option.{option_copied}
use Rattle.stm_memory.specs.Words.{Chain, Memory, found, held, links_in, seen_of, stands}
use Rattle.stm_memory.proofs.mv_memory.MvMemory.look.Goals as goal

pub nearest_at-requires : goal.nearest_at-requires
nearest_at-requires c = row_within _ _ _ c.in-Some.ensures.found

pub returns-in-Some-clause-seen : goal.returns-in-Some-clause-seen
returns-in-Some-clause-seen c =
    seen_alike (stands c.self.inside.chains c.args.row.now) (held c.args.self.now.entries c.args.row.now) c.args.index (seen_of (option_copied c.nearest_at.result))
    (λ i. sym (held_placed c.self.inside.chains c.args.row.now i c.self.invariant.once) ∙ ap (λ (m : Memory). held m.entries c.args.row.now i) c.self.view_is) (c.nearest_at.ensures.seen c.args.row.now c.in-Some.ensures.found)

pub returns-in-None-clause-seen : goal.returns-in-None-clause-seen
returns-in-None-clause-seen c i l =
    sym (ap (λ (m : Memory). held m.entries c.args.row.now i) c.self.view_is) ∙ held_placed c.self.inside.chains c.args.row.now i c.self.invariant.once
    ∙ ap (λ (o : Option Chain). found (links_in o) i) c.in-None.ensures.absent
