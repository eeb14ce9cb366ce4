use Rattle.std.proofs.Common.{ℕ, List, ◌++◌, false, ap, ◌∙◌}
use Rattle.std.proofs.lemmas.List.{append-nil}
use Rattle.std.proofs.lemmas.Result.{on_ok_weaker}
use Rattle.json.specs.Print.{separator}
use Rattle.json.specs.Token.{key}
use Rattle.book_text.specs.Members.{name_of}
use Rattle.book_text.proofs.Plain.{name_plain}
use Rattle.book_text.proofs.Tokens.{one_name}
use Rattle.book_text.proofs.json_writer.JsonWriter.name.Goals as goal

pub returns : goal.returns
returns c =
    let old = c.args.self.now in
    let name = name_of c.args.member in
    let quoted = c.as_bytes.ensures.value ∙ c.text.ensures.text in
    on_ok_weaker _ (λ put. one_name name (name_plain c.args.member) (put ∙ ap (λ (text : List ℕ). record { text = old.text ++ (separator old.after_value (key name) ++ text); after_value = false }) (append-nil c.as_bytes.result.now ∙ quoted))) c.put.ensures
