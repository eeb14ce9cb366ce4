use Rattle.std.proofs.Common.{List, ap, slice_range, sym, subst, ◌∙◌}
use Rattle.issuer_words.specs.Words.{RowKey, RowVal}
use Rattle.book_text.specs.ByKind.{StandByKind}
use Rattle.book_text.proofs.ByKind.{range_of_refs, range_stands}
use Rattle.book_text.proofs.listed_rows.ListedRows.range.Goals as goal

pub invariant_of-result : goal.invariant_of-result
invariant_of-result c = subst StandByKind (sym (range_of_refs c.self.inside.rows.now c.args.at c.args.end)) (range_stands _ c.args.at c.args.end c.self.invariant)

pub returns : goal.returns
returns c =
    range_of_refs c.self.inside.rows.now c.args.at c.args.end
    ∙ ap (λ (rows : List (RowKey × RowVal)). slice_range rows c.args.at c.args.end) c.self.view_is
