use Rattle.std.proofs.Common.{ℕ, List, [], ◌∷◌, subst}
use Rattle.std.proofs.lemmas.Result.{on_ok_weaker}
use Rattle.json.specs.Token.{string}
use Rattle.book_laws.specs.Text.{Adds}
use Rattle.book_laws.proofs.WrittenTokens.{then}
use Rattle.book_text.proofs.field_writers.account_id_field.Goals as goal
use Rattle.book_text.proofs.Plain.{plain_text}

pub returns : goal.returns
returns c = on_ok_weaker _ (λ put. then c.in_ok-name.ensures (subst (λ (text : List ℕ). Adds c.name.new.self c.string.new.self (string text ∷ [])) c.as_str.ensures.text put)) c.string.ensures

pub text_member-requires : goal.text_member-requires
text_member-requires c = plain_text c.as_slice-text.result.now (c.is_plain.ensures.0 c.if-is_plain.true)
