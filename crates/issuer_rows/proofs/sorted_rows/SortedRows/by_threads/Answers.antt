use Rattle.std.proofs.Common.{rules, ◌≡◌, IfOk, IsPermutation, IsSortedBy, List, arith, length, subst, sym, ◌∙◌}
use Rattle.std.proofs.lemmas.List.{take-append-le, take_all}
use Rattle.std.specs.Ordering.{is_lt}
use Rattle.issuer_rows.proofs.BookLaws.{entries_sorted}
use Rattle.issuer_rows.specs.Rank.{row_cmp}
use Rattle.issuer_rows.specs.declared.row_key.RowKey.{RowKey}
use Rattle.issuer_rows.specs.declared.row_val.RowVal.{RowVal}
use Rattle.issuer_rows.proofs.sorted_rows.SortedRows.by_threads.Goals as goal

pub returns : goal.returns
returns g c =
    let long : length c.par_sort.new.s ≡ c.in_ok-ranked.ranked.len = search rules in
    let behind : c.par_sort.new.s ≡ c.deref.result.now =
    sym (c.deref.ensures.value ∙ take-append-le c.in_ok-ranked.ranked.len c.par_sort.new.s _ (omega (arith, long)) ∙ take_all c.in_ok-ranked.ranked.len c.par_sort.new.s (omega (arith, long))) in
    let old : IsPermutation c.args.rows c.par_sort.new.s = search rules in
    let moves = subst (IsPermutation c.args.rows) behind old in
    let sorted = subst (IsSortedBy (λ one other. is_lt (row_cmp one other))) behind c.in_ok-par_sort.ensures.sorted in
    let entries = entries_sorted c.args.rows c.deref.result.now c.requires moves sorted in
    subst (λ (rows : List (RowKey × RowVal)). IfOk c.of.result (λ listed. listed ≡ rows)) entries c.of.ensures
