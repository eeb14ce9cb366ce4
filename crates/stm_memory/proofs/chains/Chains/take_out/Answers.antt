use Rattle.std.proofs.Common.{◌≡◌, ◌<◌, ◌≤◌, length, None, Some, refl, ap, sym, subst, ◌∙◌}
use Rattle.std.proofs.lemmas.Option.{none-some}
use Rattle.indexmap.specs.IndexMap.{set_value_at}
use Rattle.stm_memory.proofs.RowLaws.{changed, changed-sound, row_there, rows-set, set_room}
use Rattle.stm_memory.specs.Chains.{Chains, row_at, rows_of, room_of}
use Rattle.stm_memory.proofs.chains.Chains.take_out.Goals as goal

pub invariant_of-self : goal.invariant_of-self
invariant_of-self c =
    let es : Chains = c.self.inside.rows.entries in
    let at = row_there es c.args.number (subst (λ (xs : Chains). c.args.number < length xs) (sym c.self.view_is) c.requires) in
    changed-sound es _ at.0 c.args.index None c.self.invariant (changed es es c.args.number at.0 c.args.index c.in-Some.chain.now c.take_out.new.self None c.self.invariant at.1 c.in-Some.ensures.value c.take_out.ensures.own c.take_out.ensures.others refl) (rows-set es c.args.number c.take_out.new.self) (λ h e. absurd (none-some h e))

pub returns-clause-changed : goal.returns-clause-changed
returns-clause-changed c row at =
    changed c.self.inside.rows.entries c.args.self.now c.args.number row c.args.index c.in-Some.chain.now c.take_out.new.self None c.self.invariant (subst (λ (xs : Chains). row_at xs c.args.number ≡ Some row) (sym c.self.view_is) at) c.in-Some.ensures.value c.take_out.ensures.own c.take_out.ensures.others c.self.view_is

pub returns-clause-rows : goal.returns-clause-rows
returns-clause-rows c = rows-set c.self.inside.rows.entries c.args.number c.take_out.new.self ∙ ap rows_of c.self.view_is

pub returns-clause-room : goal.returns-clause-room
returns-clause-room c r =
    let es : Chains = c.self.inside.rows.entries in
    let at = row_there es c.args.number (subst (λ (xs : Chains). c.args.number < length xs) (sym c.self.view_is) c.requires) in
    subst (λ (xs : Chains). room_of xs r ≤ room_of (set_value_at es c.args.number c.take_out.new.self) r) c.self.view_is
    (set_room es c.args.number at.0 c.in-Some.chain.now c.take_out.new.self c.self.invariant at.1 c.in-Some.ensures.value c.take_out.ensures.room r)
