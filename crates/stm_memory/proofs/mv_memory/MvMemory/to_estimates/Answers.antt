use Rattle.std.proofs.Common.{length, ap, sym, subst, ◌∙◌, arith}
use Rattle.stm_memory.proofs.Kept.{kept_estimated, nothing_past, list_read}
use Rattle.stm_memory.proofs.Recorded.{estimated, estimated_none}
use Rattle.stm_memory.specs.Words.{AreListed, Memory, WrittenRows, estimate_of, list_at}
use Rattle.stm_memory.proofs.mv_memory.MvMemory.to_estimates.Goals as goal

pub estimate_all-requires : goal.estimate_all-requires
estimate_all-requires c =
    let list = list_read c.deref.result.now c.args.index c.in-Some.list.now c.in-Some.ensures.lookup.3.0 c.in-Some.ensures.lookup.1 in
    subst (λ (l : WrittenRows). AreListed c.self.inside.chains l.numbers c.args.index) (sym (ap (λ ls. list_at ls c.args.index) c.deref.ensures.value) ∙ list) (c.self.invariant.listed c.args.index)

pub invariant_of-self : goal.invariant_of-self
invariant_of-self c =
    kept_estimated c.self.inside.chains c.estimate_all.new.chains c.self.inside.lists.items c.args.index estimate_of c.self.invariant c.estimate_all.ensures.own c.estimate_all.ensures.others c.estimate_all.ensures.rows

pub returns-in-Some : goal.returns-in-Some
returns-in-Some c =
    estimated c.self.inside.chains c.estimate_all.new.chains c.args.index c.args.self.now.entries c.estimate_all.ensures.own c.estimate_all.ensures.others c.estimate_all.ensures.rows c.self.invariant.once (ap (λ (m : Memory). m.entries) c.self.view_is)

pub returns-in_default : goal.returns-in_default
returns-in_default c =
    estimated_none c.self.inside.chains c.args.index c.args.self.now.entries (nothing_past c.self.inside.chains c.self.inside.lists.items c.args.index c.self.invariant (let past = c.in_default.ensures.lookup.3 in let same = ap length c.deref.ensures.value in omega arith)) c.self.invariant.once (ap (λ (m : Memory). m.entries) c.self.view_is)
