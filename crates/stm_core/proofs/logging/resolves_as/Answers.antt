use Rattle.std.proofs.Common.{None, Some, subst}
use Rattle.std.proofs.lemmas.Bool.{false≢true}
use Rattle.stm_memory.specs.Words.{held, seen_of}
use Rattle.stm_core_laws.specs.Log.{ResolvesAs}
use Rattle.stm_core.proofs.Resolving.{link_not_base, origin_only}
use Rattle.stm_core.proofs.logging.resolves_as.Goals as goal

pub returns-in_default-2 : goal.returns-in_default-2
returns-in_default-2 c = (
  λ wrong. absurd (false≢true wrong),
  λ is. absurd (link_not_base c.in_default.field-0-0.now (origin_only (held c.args.memory.now.entries) c.args.row.now c.args.index (seen_of (Some c.in_default.field-0-0.now)) None c.in_default.ensures.seen (subst (ResolvesAs (held c.args.memory.now.entries) c.args.row.now c.args.index) c.in_default.is-1 is))),
)
