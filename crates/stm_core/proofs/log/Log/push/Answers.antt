use Rattle.std.proofs.Common.{refl, ap, ◌∙◌}
use Rattle.issuer_view.specs.RowSets.{value_in}
use Rattle.stm_core_laws.specs.State.{Log}
use Rattle.stm_core.specs.Origin.{log_of}
use Rattle.stm_core.proofs.Parts.{behind_more, behind_same, first_more, first_same, kinds_after, none_behind}
use Rattle.stm_core.proofs.log.Log.push.Goals as goal

pub invariant_of-self : goal.invariant_of-self
invariant_of-self c =
    kinds_after c.push_few.result (log_of c.self.inside.few.items c.self.inside.more.entries) (log_of c.push_few.new.few.items c.self.inside.more.entries) (c.args.row.now, record { origin = c.args.origin; value = c.args.value.now })
    (first_more c.push_few.result c.self.inside.few.items c.self.inside.more.entries _ refl c.push_few.new.few.items (record { row = c.args.row.now; logged = record { origin = c.args.origin; value = c.args.value.now }; number = c.args.number }) (c.is_empty.ensures.0 c.if-is_empty.true) c.push_few.ensures.ok)
    (first_same c.push_few.result c.self.inside.few.items c.self.inside.more.entries _ refl c.push_few.new.few.items c.push_few.ensures.err) c.self.invariant c.requires.kind

pub returns-then-len-lt-FEW-clause-ok : goal.returns-then-len-lt-FEW-clause-ok
returns-then-len-lt-FEW-clause-ok c =
    first_more c.push_few.result c.self.inside.few.items c.self.inside.more.entries c.args.self.now c.self.view_is c.push_few.new.few.items (record { row = c.args.row.now; logged = record { origin = c.args.origin; value = c.args.value.now }; number = c.args.number }) (c.is_empty.ensures.0 c.if-is_empty.true) c.push_few.ensures.ok

pub returns-then-len-lt-FEW-clause-err : goal.returns-then-len-lt-FEW-clause-err
returns-then-len-lt-FEW-clause-err c = first_same c.push_few.result c.self.inside.few.items c.self.inside.more.entries c.args.self.now c.self.view_is c.push_few.new.few.items c.push_few.ensures.err

pub push_more-requires : goal.push_more-requires
push_more-requires c = none_behind c.self.inside.few.items c.self.inside.more.entries c.args.row.now (ap (λ (log : Log). value_in log c.args.row.now) c.self.view_is ∙ c.requires.absent)

pub invariant_of-self-else-is_empty : goal.invariant_of-self-else-is_empty
invariant_of-self-else-is_empty c =
    kinds_after c.push_more.result (log_of c.self.inside.few.items c.self.inside.more.entries) (log_of c.self.inside.few.items c.push_more.new.more.entries) (c.args.row.now, record { origin = c.args.origin; value = c.args.value.now })
    (behind_more c.push_more.result c.self.inside.few.items c.self.inside.more.entries _ refl c.push_more.new.more.entries (c.args.row.now, record { origin = c.args.origin; value = c.args.value.now }) c.push_more.ensures.ok)
    (behind_same c.push_more.result c.self.inside.few.items c.self.inside.more.entries _ refl c.push_more.new.more.entries c.push_more.ensures.err) c.self.invariant c.requires.kind

pub returns-else-is_empty-clause-ok : goal.returns-else-is_empty-clause-ok
returns-else-is_empty-clause-ok c = behind_more c.push_more.result c.self.inside.few.items c.self.inside.more.entries c.args.self.now c.self.view_is c.push_more.new.more.entries (c.args.row.now, record { origin = c.args.origin; value = c.args.value.now }) c.push_more.ensures.ok

pub returns-else-is_empty-clause-err : goal.returns-else-is_empty-clause-err
returns-else-is_empty-clause-err c = behind_same c.push_more.result c.self.inside.few.items c.self.inside.more.entries c.args.self.now c.self.view_is c.push_more.new.more.entries c.push_more.ensures.err
