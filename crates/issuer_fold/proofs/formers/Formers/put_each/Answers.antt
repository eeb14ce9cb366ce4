use Rattle.std.proofs.Common.{◌+◌, drop, ap, ◌∙◌}
use Rattle.issuer_rows.proofs.OverlayLaws.{overlay-drop}
use Rattle.issuer_words.specs.Words.{Rows, overlay}
use Rattle.issuer_fold.proofs.BackLaws.{leads_back_still}
use Rattle.issuer_fold.proofs.formers.Formers.put_each.Goals as goal

pub loop-index-preserved : goal.loop-index-preserved
loop-index-preserved c =
    let book = c.loop-index.book in
    let writes = c.args.writes.now in
    let i = c.loop-index.index in
    let key = c.row.result.0.now in
    let row = c.row.result.1.now in
    let put = c.in_ok-put.ensures in
    record {
      book = ap (λ (rows : Rows). overlay rows (drop (i + 1) writes)) put.book ∙ overlay-drop book writes i (key, row) c.row.ensures.entry ∙ c.loop-index.invariant.book;
      back = λ earlier before. rw (put.book, put.noted) (leads_back_still book c.loop-index.self earlier key row (c.loop-index.invariant.back earlier before));
    }

pub returns-in_err-put-clause-back : goal.returns-in_err-put-clause-back
returns-in_err-put-clause-back c = λ earlier before. rw (c.in_err-put.ensures.err.0, c.in_err-put.ensures.err.1) (c.loop-index.invariant.back earlier before)
