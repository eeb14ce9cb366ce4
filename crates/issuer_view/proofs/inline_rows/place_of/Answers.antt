use Rattle.std.proofs.Common.{Some, refl, sym, ap, ◌∙◌}
use Rattle.std.proofs.lemmas.Option.{slice_get_read}
use Rattle.issuer_rows.proofs.KeyLaws.{key_eq_decides}
use Rattle.issuer_rows.specs.declared.row_key.RowKey.{RowKey}
use Rattle.issuer_view.proofs.ListLaws.{passed_at}
use Rattle.issuer_view.proofs.inline_rows.place_of.Goals as goal

pub returns-then-eq-clause-found : goal.returns-then-eq-clause-found
returns-then-eq-clause-found g c =
    let here = slice_get_read c.args.rows.now _ c.loop-place.place c.index-rows-place.result refl c.loop-place-test.true c.index-rows-place.is in
    let same = (key_eq_decides c.args.key.now c.index-rows-place.result.0).0 (sym c.eq.ensures ∙ c.if-eq.true) in (
      c.index-rows-place.result.1,
      here ∙ ap (λ (k : RowKey). Some (k, c.index-rows-place.result.1)) (sym same),
    )

pub loop-place-preserved : goal.loop-place-preserved
loop-place-preserved g c =
    passed_at c.args.rows.now c.loop-place.place c.index-rows-place.result c.args.key.now
    (slice_get_read _ _ _ _ refl c.loop-place-test.true c.index-rows-place.is) (sym c.eq.ensures ∙ c.if-eq.false)
    ∙ c.loop-place.invariant
