use Rattle.std.proofs.Common.{◌≡◌, ℕ, List, [], ◌∷◌, ◌++◌, ◌&&◌, false, cond, ap, ◌∙◌}
use Rattle.std.proofs.lemmas.List.{append_assoc}
use Rattle.std.proofs.lemmas.Result.{on_ok_weaker}
use Rattle.json.specs.Print.{quoted, separator}
use Rattle.json.specs.Token.{key}
use Rattle.book_laws.specs.Text.{JsonText}
use Rattle.book_text.proofs.Tokens.{one_token}
use Rattle.book_text.proofs.json_writer.JsonWriter.key.Goals as goal

pub returns : goal.returns
returns c =
    let old = c.args.self.now in
    let comma = separator old.after_value (key c.args.name.now) in
    let name = quoted c.args.name.now in
    let whole = ap (λ (now : JsonText). now.text) c.in_ok-put_quoted.ensures in
    let still = ap (λ (now : JsonText). now.after_value) c.in_ok-put_quoted.ensures in
    let grouped : (old.text ++ (comma ++ name)) ++ 58 ∷ [] ≡ old.text ++ (comma ++ (name ++ 58 ∷ []))
    = append_assoc old.text (comma ++ name) (58 ∷ []) ∙ ap (λ (text : List ℕ). old.text ++ text) (append_assoc comma name (58 ∷ [])) in
    on_ok_weaker _
    (λ put. one_token (key c.args.name.now)
    (put
    ∙ (λ i. record { text = whole i ++ (cond (still i && false) (44 ∷ []) [] ++ 58 ∷ []); after_value = false })
    ∙ ap (λ (text : List ℕ). record { text = text; after_value = false }) grouped))
    c.put.ensures
