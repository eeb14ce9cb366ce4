use Rattle.std.proofs.Common.{inl, inr, refl, sym, ap, ◌∙◌, arith}
use Rattle.std.proofs.lemmas.Bool.{false≢true}
use Rattle.std.proofs.lemmas.Option.{slice_get_within, none-some}
use Rattle.issuer_view.specs.RowSets.{value_in}
use Rattle.stm_memory.proofs.ListLaws.{standing, valued}
use Rattle.stm_memory.proofs.Loops.{putting_more, some_of, is_some_of}
use Rattle.stm_memory.specs.Memory.{WrittenRows}
use Rattle.stm_memory.proofs.mv_memory.put_all.Goals as goal
use Rattle.stm_memory.proofs.mv_memory.put_all.Goals.{then-had_none, else-had_none}

pub loop-place-init : goal.loop-place-init
loop-place-init c = record {
  listed = c.requires.listed;
  rows = refl;
  others = λ r i condition. refl;
  done = λ k w l at. absurd (omega arith);
  new_one = λ t. absurd (false≢true t);
  no_new = λ k w l at. absurd (omega arith);
  room = λ k w l at. c.requires.room w.0 (is_some_of (value_in c.args.writes.now w.0) w.1 (valued c.args.writes.now k w c.len-place-end.ensures.once at));
  list_room = let free = c.requires.list in omega arith;
}

pub loop-place-preserved : goal.loop-place-preserved
loop-place-preserved c =
    putting_more c.args.chains.now c.loop-place.chains c.put-number.new.self c.loop-place.list.numbers c.if-had_none.list.numbers c.loop-place.list.room c.if-had_none.list.room c.args.writes.now c.args.version.index c.args.version.incarnation c.loop-place.place c.put-number.result.0 c.loop-place.is_new c.put-number.result.1 (c.row.result.0.now, c.row.result.1.now) c.len-place-end.ensures.once c.loop-place.invariant c.row.ensures.entry c.put-number.ensures.changed c.put-number.ensures.number c.put-number.ensures.new.0 c.put-number.ensures.new.1 c.put-number.ensures.rows c.put-number.ensures.others
    (elim c.if-had_none.branch [
      | then-had_none w ↦ inl (w.if-had_none.true, ap (λ (l : WrittenRows). l.numbers) w.list-is ∙ w.push.ensures.numbers, let used = w.push.ensures.room in let now = ap (λ (l : WrittenRows). l.room) w.list-is in omega arith)
      | else-had_none w ↦ inr (λ t. false≢true (sym w.if-had_none.false ∙ t), ap (λ (l : WrittenRows). l.numbers) w.list-is, ap (λ (l : WrittenRows). l.room) w.list-is)
    ]) c.if-had_none.is_new
    (elim c.if-had_none.branch [
      | then-had_none w ↦ inl (w.if-had_none.true, w.is_new-is)
      | else-had_none w ↦ inr (λ t. false≢true (sym w.if-had_none.false ∙ t), w.is_new-is)
    ])

pub put-number-requires-clause-room : goal.put-number-requires-clause-room
put-number-requires-clause-room c = let l = c.loop-place-test.true in c.loop-place.invariant.room c.loop-place.place (c.row.result.0.now, c.row.result.1.now) (omega arith) c.row.ensures.entry

pub push-requires : goal.push-requires
push-requires c =
    let room = c.loop-place.invariant.list_room in
    let l = c.loop-place-test.true in
    let many = c.len-place-end.ensures.len in
    omega arith

pub returns-clause-others : goal.returns-clause-others
returns-clause-others c r i condition =
    c.loop-place.invariant.others r i (elim condition [
      | inl ne ↦ inl ne
      | inr none ↦ inr (λ k w l at e. none-some w.1 (sym none ∙ ap (value_in c.args.writes.now) (sym e) ∙ valued c.args.writes.now k w c.len-place-end.ensures.once at))
    ])

pub returns-clause-written : goal.returns-clause-written
returns-clause-written c r value is =
    let there = standing c.args.writes.now r value is in
    let l = slice_get_within c.args.writes.now there.0 (r, value) there.1 in
    let many = c.len-place-end.ensures.len in
    let end = c.loop-place-test.false in
    c.loop-place.invariant.done there.0 (r, value) (omega arith) there.1

pub returns-clause-new : goal.returns-clause-new
returns-clause-new c = (
  c.loop-place.invariant.new_one,
  λ some.
      let value = some_of (value_in c.args.writes.now some.0) some.1 in
      let there = standing c.args.writes.now some.0 value.0 value.1 in
      let l = slice_get_within c.args.writes.now there.0 (some.0, value.0) there.1 in
      let many = c.len-place-end.ensures.len in
      let end = c.loop-place-test.false in
      c.loop-place.invariant.no_new there.0 (some.0, value.0) (omega arith) there.1 some.2,
)
