use Rattle.std.proofs.Common.{ℕ, List, length, IsSome, Option, sym, subst, ap, ◌∙◌, arith}
use Rattle.std.proofs.lemmas.Bool.{false≢true}
use Rattle.std.proofs.lemmas.List.Edits.{length-remove}
use Rattle.std.proofs.lemmas.Option.{slice_get_within}
use Rattle.issuer_words.specs.Words.{RowVal}
use Rattle.issuer_view.specs.Words.{value_in}
use Rattle.stm_memory.proofs.Loops.{TakingOut, passed_over, taken_out}
use Rattle.stm_memory.proofs.mv_memory.take_out_others.Goals as goal

pub loop-place-preserved-then-is_some : goal.loop-place-preserved-then-is_some
loop-place-preserved-then-is_some c = record {
  taking = passed_over c.args.chains.now c.loop-place.chains c.args.list.now.numbers c.loop-place.list.numbers c.args.index c.loop-place.place c.at-number.result (value_in c.args.writes.now) c.row.result.now c.loop-place.invariant.taking c.at-number.ensures c.row.ensures
      (subst (λ (o : Option RowVal). IsSome o) c.get.ensures.value (sym c.is_some.ensures ∙ c.if-is_some.true));
  room = c.loop-place.invariant.room;
}

pub loop-place-preserved : goal.loop-place-preserved
loop-place-preserved c =
    let place = c.loop-place.place in
    let list = c.loop-place.list.numbers in
    let there = slice_get_within list place c.at-number.result c.at-number.ensures in
    let shorter = length-remove list place there in
    record {
      taking = subst (λ (xs : List ℕ). TakingOut c.args.chains.now c.take_out.new.self c.args.list.now.numbers xs c.args.index place (value_in c.args.writes.now)) (sym c.take_out-else-is_some.ensures.numbers)
          (taken_out c.args.chains.now c.loop-place.chains c.take_out.new.self c.args.list.now.numbers list c.args.index place c.at-number.result (value_in c.args.writes.now) c.row.result.now c.loop-place.invariant.taking c.at-number.ensures c.row.ensures
          (λ some. false≢true (sym (sym c.is_some.ensures ∙ c.if-is_some.false) ∙ subst (λ (o : Option RowVal). IsSome o) (sym c.get.ensures.value) some))
          (c.take_out.ensures.changed c.row.result.now c.row.ensures) c.take_out.ensures.rows c.take_out.ensures.room (omega arith));
      room = let before = c.loop-place.invariant.room in let more = c.take_out-else-is_some.ensures.room in omega arith;
    }

pub loop-place-smaller : goal.loop-place-smaller
loop-place-smaller c =
    let list = c.loop-place.list.numbers in
    let there = slice_get_within list c.loop-place.place c.at-number.result c.at-number.ensures in
    let shorter = length-remove list c.loop-place.place there in
    let now = ap length c.take_out-else-is_some.ensures.numbers in
    omega arith
