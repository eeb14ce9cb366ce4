use Rattle.std.proofs.Common.{◌<◌, length, arith, refl, ap, sym, subst, ◌∙◌}
use Rattle.std.specs.List.{slice_get, IsDistinct}
use Rattle.issuer_rows.specs.RowKey.{key_eq}
use Rattle.stm_memory.proofs.RowLaws.{relinked, same-sound, row_there, rows-set, set_own, set_room}
use Rattle.stm_memory.specs.Chains.{Chains, row_at, rows_of, room_of}
use Rattle.stm_memory.proofs.chains.Chains.reserve_at.Goals as goal

pub invariant_of-self : goal.invariant_of-self
invariant_of-self c =
    let es : Chains = c.self.inside.rows.entries in
    let n = c.args.number in
    let row = row_there es n (subst (λ (xs : Chains). n < length xs) (sym c.self.view_is) c.requires) in
    let at = row.1 in
    same-sound es _ c.self.invariant (rows-set es n c.reserve.new.self) (relinked es es n row.0 c.in-Some.chain.now c.reserve.new.self c.self.invariant at c.in-Some.ensures.value c.reserve.ensures.links refl)

pub returns-clause-stands : goal.returns-clause-stands
returns-clause-stands c =
    let es : Chains = c.self.inside.rows.entries in
    let n = c.args.number in
    let row = row_there es n (subst (λ (xs : Chains). n < length xs) (sym c.self.view_is) c.requires) in
    let at = row.1 in
    relinked es c.args.self.now n row.0 c.in-Some.chain.now c.reserve.new.self c.self.invariant at c.in-Some.ensures.value c.reserve.ensures.links c.self.view_is

pub returns-clause-room : goal.returns-clause-room
returns-clause-room c r named =
    let es : Chains = c.self.inside.rows.entries in
    let at = ap (λ (xs : Chains). row_at xs c.args.number) c.self.view_is ∙ named in
    rw (set_own es c.args.number r c.reserve.new.self c.self.invariant.once at) c.reserve.ensures.room

pub returns-clause-others : goal.returns-clause-others
returns-clause-others c r some =
    let es : Chains = c.self.inside.rows.entries in
    let n = c.args.number in
    let row = row_there es n (subst (λ (xs : Chains). n < length xs) (sym c.self.view_is) c.requires) in
    let at = row.1 in
    let more = set_room es n row.0 c.in-Some.chain.now c.reserve.new.self c.self.invariant at c.in-Some.ensures.value c.reserve.ensures.more r in
    let same = ap (λ (xs : Chains). room_of xs r) c.self.view_is in
    omega arith

pub returns-clause-numbers : goal.returns-clause-numbers
returns-clause-numbers c n r at =
    ap (λ rows. slice_get rows n) (rows-set c.self.inside.rows.entries c.args.number c.reserve.new.self ∙ ap rows_of c.self.view_is) ∙ at

pub returns-clause-once : goal.returns-clause-once
returns-clause-once c _ =
    let es : Chains = c.self.inside.rows.entries in
    subst (λ rows. IsDistinct key_eq rows) (sym (rows-set es c.args.number c.reserve.new.self)) c.self.invariant.once
