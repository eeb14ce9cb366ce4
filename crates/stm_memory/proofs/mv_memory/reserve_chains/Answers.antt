use Rattle.std.proofs.Common.{◌≡◌, ◌<◌, slice_get, sym, ap, ◌∙◌, subst, inl, inr, arith}
use Rattle.std.proofs.lemmas.Bool.{cases_lt}
use Rattle.std.proofs.lemmas.Option.{slice_get_within, same_Some}
use Rattle.issuer_words.specs.Words.{RowKey, RowVal}
use Rattle.issuer_view.specs.Words.{value_in}
use Rattle.stm_memory.proofs.ListLaws.{standing}
use Rattle.stm_memory.proofs.Loops.{some_of}
use Rattle.stm_memory.specs.Chains.{room_of}
use Rattle.stm_memory.proofs.mv_memory.reserve_chains.Goals as goal

pub loop-place-preserved : goal.loop-place-preserved
loop-place-preserved c =
    let so_far = c.loop-place.invariant in
    let made = c.in_ok-number.ensures in
    record {
      stands = λ r i. made.stands r i ∙ so_far.stands r i;
      room = λ k w l at.
          elim (cases_lt k c.loop-place.place) [
            | inl before ↦ made.others w.0 (so_far.room k w before at)
            | inr now ↦
                (let here : k ≡ c.loop-place.place = omega arith in
                subst (λ (x : RowKey × RowVal). 0 < room_of c.reserve.new.self x.0) (same_Some _ _ (sym c.row.ensures.entry ∙ ap (slice_get c.args.writes.now) (sym here) ∙ at)) made.room)
          ];
      numbers = λ n r at. made.numbers n r (so_far.numbers n r at);
      once = λ o. made.once (so_far.once o);
    }

pub returns-clause-room : goal.returns-clause-room
returns-clause-room c row written =
    let value = some_of (value_in c.args.writes.now row) written in
    let there = standing c.args.writes.now row value.0 value.1 in
    let l = slice_get_within c.args.writes.now there.0 (row, value.0) there.1 in
    let many = c.len-place-end.ensures.len in
    let end = c.loop-place-test.false in
    c.loop-place.invariant.room there.0 (row, value.0) (omega arith) there.1

pub returns-in_err-number-clause-numbers : goal.returns-in_err-number-clause-numbers
returns-in_err-number-clause-numbers c n r at = c.in_err-number.ensures.numbers n r (c.loop-place.invariant.numbers n r at)

pub returns-in_err-push-clause-numbers : goal.returns-in_err-push-clause-numbers
returns-in_err-push-clause-numbers c n r at = c.in_ok-number.ensures.numbers n r (c.loop-place.invariant.numbers n r at)
