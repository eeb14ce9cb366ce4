use Rattle.std.proofs.Common.{◌≡◌, ◌-◌, suc, length, None, ap, arith, ◌∙◌}
use Rattle.issuer_words.specs.Words.{Reads}
use Rattle.issuer_view.specs.Words.{latest}
use Rattle.issuer_view.proofs.LogLaws.{last_place}
use Rattle.issuer_view.proofs.inline_rows.InlineRows+Option+RowVal.latest.Goals as goal

pub returns : goal.returns
returns c =
    let rows = c.as_slice-rows.result.now in
    let some = ap (λ (reads : Reads). length reads) c.as_slice-rows.ensures in
    let last : suc (length rows - 1) ≡ length rows = omega (arith, some, c.requires) in
    last_place None rows (length rows - 1) c.index-rows-rows.result last ∙ ap (λ (reads : Reads). latest reads) c.as_slice-rows.ensures
