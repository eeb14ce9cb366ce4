use Rattle.std.proofs.Common.{ℕ, List, [], ◌∷◌, subst}
use Rattle.std.proofs.lemmas.Result.{on_ok_weaker}
use Rattle.json.specs.Token.{key}
use Rattle.book_laws.specs.Text.{Adds}
use Rattle.book_laws.proofs.WrittenTokens.{then}
use Rattle.book_text.proofs.writing.open_list.Goals as goal

pub returns : goal.returns
returns c =
    on_ok_weaker _ (λ begun. then (subst (λ (name : List ℕ). Adds c.args.out.now c.key-2.new.self (key name ∷ [])) c.key.ensures c.in_ok-key.ensures) begun) c.begin_array.ensures
