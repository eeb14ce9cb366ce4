use Rattle.std.proofs.Common.{ap, arith}
use Rattle.stm_memory.proofs.Kept.{kept_reserved}
use Rattle.stm_memory.proofs.Reserved.{same_entries, has_room, on_ok}
use Rattle.stm_memory.specs.Memory.{Memory}
use Rattle.stm_memory.proofs.mv_memory.MvMemory.reserve.Goals as goal

pub invariant_of-self-2 : goal.invariant_of-self-2
invariant_of-self-2 c =
    kept_reserved c.self.inside.chains c.reserve_chains.new.chains c.self.inside.lists.items c.reserve_list.new.lists.items c.self.invariant c.reserve_chains.ensures.once c.reserve_chains.ensures.stands c.reserve_chains.ensures.numbers c.reserve_list.ensures.numbers

pub returns-clause-entries : goal.returns-clause-entries
returns-clause-entries c =
    same_entries c.self.inside.chains c.reserve_chains.new.chains c.args.self.now.entries c.self.invariant.once (c.reserve_chains.ensures.once c.self.invariant.once) c.reserve_chains.ensures.stands (ap (λ (m : Memory). m.entries) c.self.view_is)

pub returns-clause-room : goal.returns-clause-room
returns-clause-room c =
    let list = c.in_ok-reserve_list.ensures.room in
    on_ok c.reserve_chains.result (λ rows. has_room c.reserve_chains.new.chains c.reserve_list.new.lists.items c.args.index c.args.writes.now rows list.0 (let few = list.1 in let many = c.len.ensures.len in omega arith)) c.reserve_chains.ensures.room
