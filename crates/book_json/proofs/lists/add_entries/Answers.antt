use Rattle.std.proofs.Common.{sym, ◌∙◌, arith}
use Rattle.std.proofs.lemmas.List.{drop_all}
use Rattle.std.proofs.lemmas.Result.{err_from_is_err_and}
use Rattle.book_laws.proofs.ListLemmas.{here, stays, also, goes_on, entries_at, none_left}
use Rattle.book_json.proofs.lists.add_entries.Goals as goal

pub returns-in_err-add_entry : goal.returns-in_err-add_entry
returns-in_err-add_entry c =
    let l = c.loop-entry in
    let p = err_from_is_err_and c.from_residual.result c.from_residual.ensures.1 in
    let at = here c.args.entries.now l.entry-index c.entry-item.result (omega arith) c.entry-item.is in
    rw (p.1, p.2) (also _ _ _ (entries_at c.args.version c.args.list _ _ _ l.book at ∙ l.invariant) (stays _ _ _ c.in_err-add_entry.ensures))

pub loop-entry-preserved : goal.loop-entry-preserved
loop-entry-preserved c =
    let l = c.loop-entry in
    let at = here c.args.entries.now l.entry-index c.entry-item.result (omega arith) c.entry-item.is in
    goes_on _ _ _ c.in_ok-add_entry.ensures ∙ entries_at c.args.version c.args.list _ _ _ l.book at ∙ l.invariant

pub returns : goal.returns
returns c =
    let l = c.loop-entry in
    sym l.invariant ∙ none_left c.args.version c.args.list _ l.book (drop_all l.entry-index c.args.entries.now (omega arith))
