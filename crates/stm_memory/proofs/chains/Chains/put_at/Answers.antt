use Rattle.std.proofs.Common.{◌≡◌, ◌<◌, ◌↔◌, length, None, Option, IsTrue, Some, IfSome, refl, ap, sym, subst, ◌∙◌}
use Rattle.std.proofs.lemmas.Option.{same_Some}
use Rattle.stm_memory.proofs.RowLaws.{chain_at, changed, changed-sound, row_there, rows-set, set_other}
use Rattle.stm_memory.specs.Chains.{Chain, Chains, found, links_in, row_at, rows_of, room_in, room_of, stands}
use Rattle.stm_memory.specs.Entries.{Held, value_at}
use Rattle.issuer_rows.specs.RowVal.{IsOfKind}
use Rattle.stm_memory.proofs.chains.Chains.put_at.Goals as goal

pub put-requires : goal.put-requires
put-requires c =
    let es : Chains = c.self.inside.rows.entries in
    let there = row_there es c.args.number (subst (λ (xs : Chains). c.args.number < length xs) (sym c.self.view_is) c.requires.within) in
    let chain = chain_at es c.args.number there.0 c.in-Some.chain.now c.self.invariant.once there.1 c.in-Some.ensures.value in
    subst (λ (o : Option Chain). 0 < room_in o) chain (subst (λ (xs : Chains). 0 < room_of xs there.0) (sym c.self.view_is) (c.requires.room there.0 (subst (λ (xs : Chains). row_at xs c.args.number ≡ Some there.0) c.self.view_is there.1)))

pub invariant_of-self : goal.invariant_of-self
invariant_of-self c =
    let es : Chains = c.self.inside.rows.entries in
    let there = row_there es c.args.number (subst (λ (xs : Chains). c.args.number < length xs) (sym c.self.view_is) c.requires.within) in
    let kind = c.requires.kind there.0 (subst (λ (xs : Chains). row_at xs c.args.number ≡ Some there.0) c.self.view_is there.1) in
    changed-sound es _ there.0 c.args.version.index (Some (value_at c.args.version.incarnation c.args.value.now)) c.self.invariant (changed es es c.args.number there.0 c.args.version.index c.in-Some.chain.now c.put.new.self _ c.self.invariant there.1 c.in-Some.ensures.value c.put.ensures.own c.put.ensures.others refl) (rows-set es c.args.number c.put.new.self) (λ h e. subst (λ (x : Held). IfSome x.value (IsOfKind there.0)) (same_Some _ _ e) kind)

pub returns-clause-changed : goal.returns-clause-changed
returns-clause-changed c row at =
    let es : Chains = c.self.inside.rows.entries in
    let here = subst (λ (xs : Chains). row_at xs c.args.number ≡ Some row) (sym c.self.view_is) at in
    changed es c.args.self.now c.args.number row c.args.version.index c.in-Some.chain.now c.put.new.self _ c.self.invariant here c.in-Some.ensures.value c.put.ensures.own c.put.ensures.others c.self.view_is

pub returns-clause-new : goal.returns-clause-new
returns-clause-new c row at =
    let es : Chains = c.self.inside.rows.entries in
    let here = subst (λ (xs : Chains). row_at xs c.args.number ≡ Some row) (sym c.self.view_is) at in
    let chain = chain_at es c.args.number row c.in-Some.chain.now c.self.invariant.once here c.in-Some.ensures.value in
    subst (λ (xs : Chains). IsTrue c.put.result ↔ (stands xs row c.args.version.index ≡ None)) c.self.view_is
    (subst (λ (o : Option Chain). IsTrue c.put.result ↔ (found (links_in o) c.args.version.index ≡ None)) (sym chain) c.put.ensures.new)

pub returns-clause-rows : goal.returns-clause-rows
returns-clause-rows c = rows-set c.self.inside.rows.entries c.args.number c.put.new.self ∙ ap rows_of c.self.view_is

pub returns-clause-others : goal.returns-clause-others
returns-clause-others c r other =
    let es : Chains = c.self.inside.rows.entries in
    let there = row_there es c.args.number (subst (λ (xs : Chains). c.args.number < length xs) (sym c.self.view_is) c.requires.within) in
    let at = subst (λ (xs : Chains). row_at xs c.args.number ≡ Some there.0) c.self.view_is there.1 in
    ap room_in (set_other es c.args.number there.0 r c.put.new.self there.1 (λ same. other (at ∙ ap Some (sym same)))) ∙ ap (λ (xs : Chains). room_of xs r) c.self.view_is
