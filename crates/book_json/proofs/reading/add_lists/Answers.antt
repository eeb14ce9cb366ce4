use Rattle.std.proofs.Common.{sym, ◌∙◌, arith}
use Rattle.std.proofs.lemmas.List.{drop_all, drop_more}
use Rattle.std.proofs.lemmas.Result.{err_from_is_err_and}
use Rattle.serde_json.specs.View.{view}
use Rattle.book_laws.proofs.ListLemmas.{stays, also, goes_on, lists_at, no_list_left}
use Rattle.book_laws.specs.declared.row_list.RowList.TheVariants.{Cards}
use Rattle.book_json.proofs.reading.add_lists.Goals as goal

pub returns-in_err-add_list : goal.returns-in_err-add_list
returns-in_err-add_list c =
    let l = c.loop-list in
    let p = err_from_is_err_and c.from_residual.result c.from_residual.ensures.1 in
    let at = drop_more c.args.lists.now l.list-index Cards (omega arith) in
    rw (p.1, p.2) (also _ _ _ (lists_at c.args.version _ _ _ (view c.args.top.now) l.book at ∙ l.invariant) (stays _ _ _ c.in_err-add_list.ensures))

pub loop-list-preserved : goal.loop-list-preserved
loop-list-preserved c =
    let l = c.loop-list in
    let at = drop_more c.args.lists.now l.list-index Cards (omega arith) in
    goes_on _ _ _ c.in_ok-add_list.ensures ∙ lists_at c.args.version _ _ _ (view c.args.top.now) l.book at ∙ l.invariant

pub returns : goal.returns
returns c =
    let l = c.loop-list in
    sym l.invariant ∙ no_list_left c.args.version _ (view c.args.top.now) l.book (drop_all l.list-index c.args.lists.now (omega arith))
