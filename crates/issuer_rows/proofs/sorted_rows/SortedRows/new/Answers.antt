use Rattle.std.proofs.Common.{rules, ◌≡◌, IfOk, IsPermutation, IsSortedBy, List, subst}
use Rattle.std.specs.Ordering.{is_lt}
use Rattle.issuer_rows.proofs.BookLaws.{entries_sorted}
use Rattle.issuer_rows.specs.Rank.{row_cmp}
use Rattle.issuer_rows.specs.declared.row_key.RowKey.{RowKey}
use Rattle.issuer_rows.specs.declared.row_val.RowVal.{RowVal}
use Rattle.issuer_rows.proofs.sorted_rows.SortedRows.new.Goals as goal

pub returns : goal.returns
returns c =
    let moves : IsPermutation c.args.rows c.deref.result.now = search rules in
    let sorted : IsSortedBy (λ one other. is_lt (row_cmp one other)) c.deref.result.now = search rules in
    let entries = entries_sorted c.args.rows c.deref.result.now c.requires moves sorted in
    subst (λ (rows : List (RowKey × RowVal)). IfOk c.of.result (λ listed. listed ≡ rows)) entries c.of.ensures
