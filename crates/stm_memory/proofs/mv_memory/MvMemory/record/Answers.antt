use Rattle.std.proofs.Common.{inl, ap, sym, subst, ◌∙◌, arith}
use Rattle.stm_memory.proofs.Kept.{kept_changed, list_read, list_room, row_room}
use Rattle.stm_memory.proofs.Recorded.{replaced, new_location}
use Rattle.stm_memory.specs.Memory.{Memory, WrittenRows, AreListed, HasRoom}
use Rattle.stm_memory.proofs.mv_memory.MvMemory.record.Goals as goal

pub take_out_others-requires : goal.take_out_others-requires
take_out_others-requires c =
    let has = subst (λ (m : Memory). HasRoom m.room c.args.version.index c.args.writes.now) (sym c.self.view_is) c.requires in
    let there = list_room c.self.inside.lists.items c.args.version.index has.1.0 has.1.1 in
    subst (λ (l : WrittenRows). AreListed c.self.inside.chains l.numbers c.args.version.index) (list_read c.self.inside.lists.items c.args.version.index c.index_mut-list.result.now there.0 c.index_mut-list.ensures.value) (c.self.invariant.listed c.args.version.index)

pub put_all-requires-clause-room : goal.put_all-requires-clause-room
put_all-requires-clause-room c row some =
    let has = subst (λ (m : Memory). HasRoom m.room c.args.version.index c.args.writes.now) (sym c.self.view_is) c.requires in
    let before = row_room c.self.inside.chains row (has.0 row some) in
    let more = c.take_out_others.ensures.room row in
    omega arith

pub put_all-requires-clause-list : goal.put_all-requires-clause-list
put_all-requires-clause-list c =
    let has = subst (λ (m : Memory). HasRoom m.room c.args.version.index c.args.writes.now) (sym c.self.view_is) c.requires in
    let there = list_room c.self.inside.lists.items c.args.version.index has.1.0 has.1.1 in
    let list = ap (λ (l : WrittenRows). l.room) (list_read c.self.inside.lists.items c.args.version.index c.index_mut-list.result.now there.0 c.index_mut-list.ensures.value) in
    let free = there.1 in
    let few = has.1.2 in
    let more = c.take_out_others.ensures.list in
    omega arith

pub invariant_of-self : goal.invariant_of-self
invariant_of-self c =
    let has = subst (λ (m : Memory). HasRoom m.room c.args.version.index c.args.writes.now) (sym c.self.view_is) c.requires in
    let there = list_room c.self.inside.lists.items c.args.version.index has.1.0 has.1.1 in
    kept_changed c.self.inside.chains c.put_all.new.chains c.self.inside.lists.items c.args.version.index c.put_all.new.list c.self.invariant there.0 c.put_all.ensures.listed (λ r i ne. c.put_all.ensures.others r i (inl ne) ∙ c.take_out_others.ensures.others r i ne) (c.put_all.ensures.rows ∙ c.take_out_others.ensures.rows)

pub returns-clause-replaced : goal.returns-clause-replaced
returns-clause-replaced c =
    let t = c.take_out_others.ensures in
    let p = c.put_all.ensures in
    replaced c.self.inside.chains c.take_out_others.new.chains c.put_all.new.chains c.args.version c.args.writes.now c.args.self.now.entries (record { taken_others = t.others; taken_written = t.written; taken = t.unwritten; put_others = p.others; put_written = p.written; rows = p.rows ∙ t.rows; once = c.self.invariant.once; writes_once = p.once }) (ap (λ (m : Memory). m.entries) c.self.view_is)

pub returns-clause-new : goal.returns-clause-new
returns-clause-new c =
    let t = c.take_out_others.ensures in
    let p = c.put_all.ensures in
    new_location c.self.inside.chains c.take_out_others.new.chains c.put_all.new.chains c.args.version c.args.writes.now c.args.self.now.entries c.put_all.result (record { taken_others = t.others; taken_written = t.written; taken = t.unwritten; put_others = p.others; put_written = p.written; rows = p.rows ∙ t.rows; once = c.self.invariant.once; writes_once = p.once }) (ap (λ (m : Memory). m.entries) c.self.view_is) p.new
