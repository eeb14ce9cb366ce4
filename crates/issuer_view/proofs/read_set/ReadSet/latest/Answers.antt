use Rattle.std.proofs.Common.{◌≡◌, ◌-◌, suc, length, None, ap, sym, rules, ◌∙◌}
use Rattle.issuer_words.specs.Words.{Reads}
use Rattle.issuer_view.specs.Words.{latest}
use Rattle.issuer_view.proofs.LogLaws.{latest_behind}
use Rattle.issuer_view.proofs.read_set.ReadSet.latest.Goals as goal

pub returns : goal.returns
returns c =
    let more = c.self.inside.more in
    let last : suc (c.len-behind.result - 1) ≡ length more = search rules in
    latest_behind None c.self.inside.few more (c.len-behind.result - 1) _ last (sym c.in-Some.ensures) ∙ ap (λ (reads : Reads). latest reads) c.self.view_is
