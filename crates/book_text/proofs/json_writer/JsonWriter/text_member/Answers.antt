use Rattle.std.proofs.Common.{[], ◌∷◌, ◌++◌, true, sym, ◌∙◌}
use Rattle.std.proofs.lemmas.Result.{on_ok_weaker}
use Rattle.json.specs.Print.{separator}
use Rattle.json.specs.Token.{key, string}
use Rattle.book_text.specs.Members.{name_of}
use Rattle.book_text.proofs.Plain.{name_plain}
use Rattle.book_text.proofs.Tokens.{one_member}
use Rattle.book_text.proofs.json_writer.JsonWriter.text_member.Goals as goal

pub returns : goal.returns
returns c =
    let old = c.args.self.now in
    let name = name_of c.args.member in
    let quoted = c.as_bytes.ensures.value ∙ c.text.ensures.text in
    on_ok_weaker _
    (λ put. one_member name (string c.args.text.now) (name_plain c.args.member)
    (put ∙ (λ i. record { text = old.text ++ (separator old.after_value (key name) ++ (quoted i ++ 34 ∷ (sym c.requires i ++ 34 ∷ []))); after_value = true })))
    c.put.ensures
