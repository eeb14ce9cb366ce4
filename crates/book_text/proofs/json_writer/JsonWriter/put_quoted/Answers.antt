use Rattle.std.proofs.Common.{◌≡◌, ℕ, List, [], ◌∷◌, ◌++◌, sym, ap, ◌∙◌}
use Rattle.std.proofs.lemmas.List.{append-nil, append_assoc}
use Rattle.std.proofs.lemmas.Result.{on_ok_weaker}
use Rattle.json.specs.Print.{escape, quoted, separator}
use Rattle.json.specs.Token.{string}
use Rattle.book_laws.specs.Text.{JsonText}
use Rattle.book_text.proofs.Plain.{plain_text}
use Rattle.book_text.proofs.json_writer.JsonWriter.put_quoted.Goals as goal

pub returns-then-is_plain : goal.returns-then-is_plain
returns-then-is_plain c =
    let old = c.args.self.now in
    let plain : escape c.as_bytes.result.now ≡ c.as_bytes.result.now = plain_text c.as_bytes.result.now (c.is_plain.ensures.0 c.if-is_plain.true) in
    let stored : c.as_bytes-then-is_plain.result.now ≡ escape c.args.text.now = c.as_bytes-then-is_plain.ensures.value ∙ sym c.as_bytes.ensures.value ∙ sym plain ∙ ap escape c.as_bytes.ensures.value in
    let in_quotes : List ℕ → JsonText
    = λ text. record { text = old.text ++ (separator old.after_value (string c.args.text.now) ++ 34 ∷ (text ++ 34 ∷ [])); after_value = c.args.ends } in
    on_ok_weaker c.put.result (λ (put : c.put.new.self ≡ in_quotes c.as_bytes-then-is_plain.result.now). put ∙ ap in_quotes stored) c.put.ensures

pub returns : goal.returns
returns c =
    let old = c.args.self.now in
    let comma = separator old.after_value (string c.args.text.now) in
    let text = quoted c.args.text.now in
    let begun = ap (λ (now : JsonText). now.text) c.in_ok-put.ensures ∙ ap (λ (t : List ℕ). old.text ++ t) (append-nil comma) in
    let ends = c.put_escaped.ensures.after ∙ ap (λ (now : JsonText). now.after_value) c.in_ok-put.ensures in
    on_ok_weaker c.put_escaped.result
    (λ (put : c.put_escaped.new.self.text ≡ c.put-2.new.self.text ++ text). (λ i. record { text = (put ∙ ap (λ (t : List ℕ). t ++ text) begun ∙ append_assoc old.text comma text) i; after_value = ends i }))
    c.put_escaped.ensures.text
