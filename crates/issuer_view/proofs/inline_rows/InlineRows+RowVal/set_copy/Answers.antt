use Rattle.std.proofs.Common.{◌≡◌, ◌<◌, length, take, set, sym, ap, ◌∙◌, arith}
use Rattle.std.proofs.Math.Seq.{take-set-lt}
use Rattle.std.proofs.lemmas.Grind.{common_steps}
use Rattle.std.proofs.lemmas.List.{length-set, with_items_is}
use Rattle.issuer_words.specs.Words.{RowKey, RowVal, Writes}
use Rattle.issuer_view.proofs.inline_rows.InlineRows+RowVal.set_copy.Goals as goal

pub returns : goal.returns
returns c =
    let place = c.args.place in
    let row : RowKey × RowVal = (c.args.key.now, c.args.row.now) in
    let within : place < c.self.inside.used = grind (arith, common_steps) in
    let written : c.write_over.new.rows ≡ set c.self.inside.rows.items place row = c.write_over.ensures ∙ ap (λ (rows : Writes). set rows place row) c.deref_mut.ensures.value in
    let as_long : length c.write_over.new.rows ≡ c.self.inside.rows.len = ap (λ (rows : Writes). length rows) written ∙ length-set c.self.inside.rows.items place row ∙ sym c.self.inside.rows.ok.0 in
    ap (λ (rows : Writes). take c.self.inside.used rows) (with_items_is c.self.inside.rows c.write_over.new.rows as_long ∙ written)
    ∙ take-set-lt c.self.inside.used c.self.inside.rows.items place row within
    ∙ ap (λ (rows : Writes). set rows place row) c.self.view_is
