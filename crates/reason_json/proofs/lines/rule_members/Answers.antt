use Rattle.std.proofs.Common.{ℕ, List, [], ◌∷◌, subst}
use Rattle.std.specs.Prelude.{codes}
use Rattle.std.proofs.lemmas.Result.{on_ok_weaker}
use Rattle.json.specs.Token.{key, string}
use Rattle.book_laws.specs.Text.{Adds}
use Rattle.book_laws.proofs.WrittenTokens.{then}
use Rattle.reason_json.proofs.lines.rule_members.Goals as goal

pub returns : goal.returns
returns c =
    on_ok_weaker _
    (λ reason. then (rw c.name.ensures at c.in_ok-text_field.ensures)
    (subst (λ (text : List ℕ). Adds c.text_field.new.self c.text_field-2.new.self (key (codes "reason") ∷ string text ∷ [])) c.sentence.ensures reason)) c.text_field-2.ensures
