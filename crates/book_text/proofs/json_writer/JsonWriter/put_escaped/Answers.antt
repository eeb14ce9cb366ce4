use Rattle.std.proofs.Common.{◌≡◌, ℕ, List, [], ◌∷◌, ◌++◌, ap, ◌∙◌}
use Rattle.std.proofs.lemmas.List.{append-nil}
use Rattle.std.proofs.lemmas.Result.{on_ok_weaker}
use Rattle.json.specs.Print.{print, print_from, quoted}
use Rattle.json.specs.Token.{Token, string}
use Rattle.book_laws.specs.Text.{JsonText}
use Rattle.book_text.proofs.json_writer.JsonWriter.put_escaped.Goals as goal

-- a string that is printed behind nothing is its text in quotes
one_string : (text : List ℕ) → print ([] ++ string text ∷ []) ≡ quoted text
unfolding print_from
one_string text = append-nil (quoted text)

pub returns-clause-text : goal.returns-clause-text
returns-clause-text c =
    let stood : c.string-written.new.self.before ≡ c.args.self.now.text
    = c.string-written.ensures.room.0 ∙ c.new-out.ensures.before ∙ c.take.ensures.taken ∙ ap (λ (t : JsonText). t.text) c.self.view_is in
    on_ok_weaker _
    (λ written. c.new.ensures ∙ c.into_inner.ensures.items
    ∙ (λ i. stood i ++ print ((written ∙ ap (λ (ts : List Token). ts ++ string c.args.text.now ∷ []) c.new-out.ensures.tokens) i))
    ∙ ap (λ (text : List ℕ). c.args.self.now.text ++ text) (one_string c.args.text.now)) c.string-written.ensures.ok
