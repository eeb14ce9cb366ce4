use Rattle.std.proofs.Common.{◌≡◌, ◌+◌, ◌∷◌, List, ap, sym, ◌∙◌, subst, drop, map}
use Rattle.std.proofs.lemmas.List.{drop_more, drop_all}
use Rattle.std.specs.Map.Iter.{deref_pair}
use Rattle.issuer_words.specs.Words.{IsOfKind, RowKey, RowVal}
use Rattle.book_laws.specs.Text.{Adds, JsonText, rows_of}
use Rattle.book_laws.proofs.WrittenTokens.{then}
use Rattle.book_text.specs.Left.{tokens_of_entries, entries_tokens}
use Rattle.book_text.proofs.ByKind.{Ref, kind_at}
use Rattle.book_text.proofs.Entries.{rows_in, rows_out}
use Rattle.book_text.proofs.Tokens.{no_token}
use Rattle.book_text.proofs.writing.write_rows.Goals.{then-has+in_ok-write_entry, else-has}
use Rattle.book_text.proofs.writing.write_rows.Goals as goal

pub write_entry-requires : goal.write_entry-requires
write_entry-requires c =
    subst (λ (row : Ref). IsOfKind row.0.now row.1.now) (sym c.row-item.is)
    (kind_at c.of_kind-candidates.result.now c.loop-row.row-index c.row-item.result c.of_kind-candidates.ensures.kinds c.loop-row-test.true)

pub loop-row-preserved : goal.loop-row-preserved
loop-row-preserved c whole rest =
    let list = c.args.list in
    let row : Ref = c.row-item.result in
    let all : List Ref = c.of_kind-candidates.result.now in
    let left : List Ref = drop (c.loop-row.row-index + 1) all in
    let more : drop c.loop-row.row-index all ≡ row ∷ left
    = drop_more all c.loop-row.row-index row c.loop-row-test.true ∙ ap (λ (r : Ref). r ∷ left) (sym c.row-item.is) in
    let from : rows_of list (map deref_pair (drop c.loop-row.row-index all)) ≡ rows_of list (deref_pair row ∷ map deref_pair left)
    = ap (λ (l : List Ref). rows_of list (map deref_pair l)) more in
    elim c.if-has.branch [
      | then-has+in_ok-write_entry w ↦
          let rows = from ∙ rows_in list (deref_pair row) (map deref_pair left) (sym c.has.ensures ∙ w.if-has.true) in
          let behind = subst (λ (o : JsonText). Adds o whole (entries_tokens list (map deref_pair left))) w.out-is rest in
          c.loop-row.invariant whole
          (subst (λ (rs : List (RowKey × RowVal)). Adds c.loop-row.out whole (tokens_of_entries rs)) (sym rows) (then w.in_ok-write_entry.ensures behind))
      | else-has w ↦
          let rows = from ∙ rows_out list (deref_pair row) (map deref_pair left) (sym c.has.ensures ∙ w.if-has.false) in
          let behind = subst (λ (o : JsonText). Adds o whole (entries_tokens list (map deref_pair left))) w.out-is rest in
          c.loop-row.invariant whole (subst (λ (rs : List (RowKey × RowVal)). Adds c.loop-row.out whole (tokens_of_entries rs)) (sym rows) behind)
    ]

pub returns : goal.returns
returns c =
    let none = drop_all c.loop-row.row-index c.of_kind-candidates.result.now c.loop-row-test.false in
    subst (λ (rs : List (RowKey × RowVal)). Adds c.args.out.now c.loop-row.out (tokens_of_entries rs)) c.of_kind-candidates.ensures.rows
    (c.loop-row.invariant c.loop-row.out
    (subst (λ (l : List Ref). Adds c.loop-row.out c.loop-row.out (entries_tokens c.args.list (map deref_pair l))) (sym none) (no_token c.loop-row.out)))
