use Rattle.std.proofs.Common.{◌++◌, true, decimal, ◌∙◌}
use Rattle.std.proofs.lemmas.List.{append-nil}
use Rattle.std.proofs.lemmas.Result.{on_ok_weaker}
use Rattle.json.specs.Print.{separator}
use Rattle.json.specs.Token.{key, number}
use Rattle.book_text.specs.Members.{name_of}
use Rattle.book_text.proofs.Plain.{name_plain}
use Rattle.book_text.proofs.Tokens.{one_member}
use Rattle.book_text.proofs.json_writer.JsonWriter.number_member.Goals as goal

pub returns : goal.returns
returns c =
    let old = c.args.self.now in
    let name = name_of c.args.member in
    let quoted = c.as_bytes.ensures.value ∙ c.text.ensures.text in
    let digits = append-nil c.as_bytes-digits.result.now ∙ c.as_bytes-digits.ensures.value ∙ c.format.ensures.text in
    on_ok_weaker _
    (λ put. one_member name (number (decimal c.args.number)) (name_plain c.args.member)
    (put ∙ (λ i. record { text = old.text ++ (separator old.after_value (key name) ++ (quoted i ++ digits i)); after_value = true })))
    c.put.ensures
