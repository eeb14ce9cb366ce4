use Rattle.std.proofs.Common.{◌∷◌, [], List, ap, sym, subst, ◌∙◌, append-nil}
use Rattle.json.specs.Token.{Token, key as key_token, begin_array}
use Rattle.book_laws.specs.Parts.{list_key}
use Rattle.book_laws.specs.Text.{Adds}
use Rattle.book_laws.proofs.WrittenTokens.{rest_tokens, then}
use Rattle.book_text.proofs.Entries.{rest_split}
use Rattle.book_text.proofs.writing.write_list.Goals as goal

pub returns : goal.returns
returns c =
    let rows = c.args.rows.now in
    let whole = sym (rest_split c.args.list rows []) ∙ ap (rest_tokens c.args.list) (append-nil rows) in
    subst (λ (ts : List Token). Adds c.args.out.now c.end_array.new.self (key_token (list_key c.args.list) ∷ begin_array ∷ ts)) whole
    (then c.in_ok-open_list.ensures (then c.in_ok-write_rows.ensures c.in_ok-end_array.ensures))
