use Rattle.std.proofs.Common.{ℕ, List, ◌++◌, true, decimal, ap, ◌∙◌}
use Rattle.std.proofs.lemmas.List.{append-nil}
use Rattle.std.proofs.lemmas.Result.{on_ok_weaker}
use Rattle.json.specs.Print.{separator}
use Rattle.json.specs.Token.{number}
use Rattle.book_text.proofs.Tokens.{one_token}
use Rattle.book_text.proofs.json_writer.JsonWriter.number.Goals as goal

pub returns : goal.returns
returns c =
    let old = c.args.self.now in
    let token = number (decimal c.args.number) in
    let digits = append-nil c.as_bytes.result.now ∙ c.as_bytes.ensures.value ∙ c.format.ensures.text in
    on_ok_weaker _ (λ put. one_token token (put ∙ ap (λ (text : List ℕ). record { text = old.text ++ (separator old.after_value token ++ text); after_value = true }) digits)) c.put.ensures
