use Rattle.std.proofs.Common.{◌≡◌, IfOk, List, refl, rules, subst}
use Rattle.std.proofs.lemmas.Iterator.{YieldsList-from_map, items_from_collect}
use Rattle.std.proofs.lemmas.Iterator.Consumers.{YieldsList-at, YieldsList-from_rest}
use Rattle.std.proofs.lemmas.List.{map-id}
use Rattle.std.specs.Map.Iter.{deref_pair}
use Rattle.issuer_rows.specs.declared.row_key.RowKey.{RowKey}
use Rattle.issuer_rows.specs.declared.row_val.RowVal.{RowVal}
use Rattle.issuer_rows.proofs.sorted_rows.ranked_rows.Goals as goal

pub returns : goal.returns
returns c =
    let rows = YieldsList-at {v = deref_pair} c.map.ensures.source (YieldsList-from_rest {shows = deref_pair} c.args.rows refl) in
    let collected = items_from_collect c.collect.result c.collect.ensures.ran
    (YieldsList-from_map _ (λ (row : RowKey × RowVal). row) rows c.map.ensures.closure (λ x r q k. search rules)) in
    subst (λ (rows : List (RowKey × RowVal)). IfOk c.collect.result (λ ranked. ranked.items ≡ rows)) (map-id c.args.rows) collected
