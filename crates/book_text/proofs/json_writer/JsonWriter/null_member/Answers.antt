use Rattle.std.proofs.Common.{ℕ, List, ◌++◌, true, ap, ◌∙◌}
use Rattle.std.proofs.lemmas.Result.{on_ok_weaker}
use Rattle.json.specs.Print.{separator, token_text}
use Rattle.json.specs.Token.{key, null}
use Rattle.book_text.specs.Members.{name_of}
use Rattle.book_text.proofs.Plain.{name_plain}
use Rattle.book_text.proofs.Tokens.{one_member}
use Rattle.book_text.proofs.json_writer.JsonWriter.null_member.Goals as goal

pub returns : goal.returns
returns c =
    let old = c.args.self.now in
    let name = name_of c.args.member in
    let quoted = c.as_bytes.ensures.value ∙ c.text.ensures.text in
    on_ok_weaker _ (λ put. one_member name null (name_plain c.args.member) (put ∙ ap (λ (text : List ℕ). record { text = old.text ++ (separator old.after_value (key name) ++ (text ++ token_text null)); after_value = true }) quoted)) c.put.ensures
