use Rattle.std.proofs.Common.{Ok, ℕ, rules, ◌∙◌}
use Rattle.std.proofs.lemmas.Iterator.{YieldsList-from_map_by, YieldsList-from_slice}
use Rattle.std.proofs.lemmas.Iterator.Consumers.{YieldsList-at, map_from_collect}
use Rattle.std.proofs.lemmas.List.{map-id}
use Rattle.std.specs.Map.Iter.{deref_pair}
use Rattle.issuer_rows.specs.declared.row_key.RowKey.{RowKey}
use Rattle.issuer_rows.specs.declared.row_val.RowVal.{RowVal}
use Rattle.issuer_rows.proofs.sorted_rows.SortedRows.of.Goals as goal

pub returns : goal.returns
returns c =
    let ranked = YieldsList-at c.map.ensures.source (YieldsList-from_slice c.args.ranked.now c.iter.ensures.rest) in
    map_from_collect {E = ℕ} (Ok c.in_ok-collect.field-0) c.in_ok-collect.ensures.ran
    (YieldsList-from_map_by _ deref_pair (λ (row : RowKey × RowVal). row) ranked c.map.ensures.closure (λ x r q k. search rules))
    ∙ map-id c.args.ranked.now
