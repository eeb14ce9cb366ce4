use Rattle.std.proofs.Common.{ap, sym, ◌∙◌}
use Rattle.stm_memory.proofs.Placed.{held_placed}
use Rattle.stm_memory.proofs.SeenLaws.{seen_alike}
use Rattle.std.specs.Option.{option_copied}
use Rattle.stm_memory.specs.Words.{Memory, held, seen_of, stands}
use Rattle.stm_memory.proofs.mv_memory.MvMemory.look_at.Goals as goal

pub returns-clause-seen : goal.returns-clause-seen
returns-clause-seen c =
    seen_alike (stands c.self.inside.chains c.args.row.now) (held c.args.self.now.entries c.args.row.now) c.args.index (seen_of (option_copied c.nearest_below.result))
    (λ i. sym (held_placed c.self.inside.chains c.args.row.now i c.self.invariant.once) ∙ ap (λ (m : Memory). held m.entries c.args.row.now i) c.self.view_is) c.nearest_below.ensures.seen
