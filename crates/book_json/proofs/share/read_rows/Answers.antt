use Rattle.std.proofs.Common.{◌≡◌, ◌∷◌, ◌++◌, [], List, true, refl, ap, sym, ◌∙◌, subst, rules}
use Rattle.std.proofs.lemmas.List.{map-append}
use Rattle.json.specs.Token.{Token}
use Rattle.issuer_words.specs.Words.{RowKey, RowVal}
use Rattle.book_laws.specs.Parts.{is_in}
use Rattle.book_laws.specs.Text.{Adds, JsonText, rows_of}
use Rattle.book_laws.proofs.WrittenTokens.{then}
use Rattle.book_text.specs.Left.{tokens_of_entries}
use Rattle.book_text.proofs.Tokens.{no_token}
use Rattle.book_json.specs.ReadsOn.{pairs_of}
use Rattle.book_json.specs.declared.row.Row.{Row}
use Rattle.book_json.proofs.ReadsOn.{one_more, entries_more}
use Rattle.book_json.proofs.share.read_rows.Goals as goal

pub loop-init : goal.loop-init
loop-init c =
    let start : JsonText = record { text = []; after_value = c.args.later } in
    let rows : List Row = c.reserve.new.self.items in
    let none : rows ≡ [] = search rules in
    let empty : c.new-out.result ≡ start = search rules in (
      subst (λ (some : List Row). rows_of c.args.list (pairs_of some) ≡ pairs_of some) (sym none) refl,
      subst (λ (out : JsonText). Adds start out (tokens_of_entries (pairs_of rows))) (sym empty)
          (subst (λ (some : List Row). Adds start start (tokens_of_entries (pairs_of some))) (sym none) (no_token start)),
    )

pub loop-preserved : goal.loop-preserved
loop-preserved c =
    let start : JsonText = record { text = []; after_value = c.args.later } in
    let rows : List (RowKey × RowVal) = pairs_of c.loop.rows.items in
    let row : RowKey × RowVal = (c.in-Some.key, c.in-Some.val) in
    let more : pairs_of c.push.new.self.items ≡ rows ++ row ∷ []
    = ap pairs_of c.in_ok-push.ensures.items ∙ map-append (λ (r : Row). (r.key, r.val)) c.loop.rows.items _ in
    let stands : is_in c.args.list row.1 ≡ true = search rules in (
      subst (λ (some : List (RowKey × RowVal)). rows_of c.args.list some ≡ some) (sym more) (one_more c.args.list row rows c.loop.invariant.0 stands),
      subst (λ (some : List (RowKey × RowVal)). Adds start c.write_entry.new.out (tokens_of_entries some)) (sym more)
          (subst (λ (ts : List Token). Adds start c.write_entry.new.out ts) (sym (entries_more row rows)) (then c.loop.invariant.1 c.in_ok-write_entry.ensures)),
    )
