use Rattle.std.proofs.Common.{◌≡◌, ◌+◌, ◌∷◌, List, ap, sym, ◌∙◌, subst, drop}
use Rattle.std.proofs.lemmas.List.{drop_more, drop_all}
use Rattle.std.specs.FinMap as map
use Rattle.issuer_rows.specs.Fold.{Rows}
use Rattle.book_json.specs.ReadsOn.{TakesRows, pairs_of}
use Rattle.book_json.specs.declared.row.Row.{Row}
use Rattle.book_json.proofs.ReadsOn.{takes_one, takes_none, new_by_len}
use Rattle.book_json.proofs.book_reader.put_rows.Goals as goal

pub loop-row-preserved : goal.loop-row-preserved
loop-row-preserved c after takes =
    let l = c.loop-row in
    let row : Row = c.row-item.result in
    let left : List Row = drop (l.row-index + 1) c.args.rows.now in
    let more : drop l.row-index c.args.rows.now ≡ row ∷ left
    = drop_more c.args.rows.now l.row-index row c.loop-row-test.true ∙ ap (λ (r : Row). r ∷ left) (sym c.row-item.is) in
    let put = c.in_ok-put_copy.ensures.ok in
    l.invariant after
    (subst (λ (rows : List Row). TakesRows (pairs_of rows) l.book after) (sym more)
    (takes_one (row.key, row.val) (pairs_of left) l.book c.put_copy.new.self after (new_by_len l.book row.key row.val (λ same. c.if-len-before.false (c.len.ensures ∙ ap (λ (b : Rows). map.len b) put ∙ same ∙ sym c.len-before.ensures))) c.row_is_read.ensures put takes))

pub returns : goal.returns
returns c all =
    let l = c.loop-row in
    l.invariant l.book (subst (λ (rows : List Row). TakesRows (pairs_of rows) l.book l.book) (sym (drop_all l.row-index c.args.rows.now c.loop-row-test.false)) (takes_none l.book))
