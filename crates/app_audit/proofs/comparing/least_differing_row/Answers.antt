use Rattle.std.proofs.Common.{◌≡◌, rules, Option, Some, None, IfSome, IfNone, refl, ◌∙◌}
use Rattle.std.specs.FinMap as map
use Rattle.std.specs.Map.Iter.{deref_pair}
use Rattle.std.proofs.lemmas.Iterator.Consumers.{YieldsList-from_rest}
use Rattle.itertools.specs.List.{merge_join_by}
use Rattle.itertools.proofs.TwoLemmas.{YieldsList-from_front_of_both}
use Rattle.issuer_words.specs.Words.{RowKey, Rows}
use Rattle.app_audit.specs.Difference.{IsLeastDifference}
use Rattle.app_audit.proofs.Joined.{agree, join, joined, lent, lent_by_key, row_of, FindsFirst, found}
use Rattle.app_audit.proofs.LeastKey.{least}
use Rattle.app_audit.proofs.comparing.least_differing_row.Goals as goal

some_key : (o : Option RowKey) (book right : Rows) → FindsFirst (join (map.entries book) (map.entries right)) o → IfSome o (IsLeastDifference book right)
some_key None book right h = tt
some_key (Some key) book right h = least book right key h

no_key : (o : Option RowKey) (book right : Rows) → FindsFirst (join (map.entries book) (map.entries right)) o → IfNone o (book ≡ right)
no_key None book right h = map.same_entries_map book right (agree (map.entries book) (map.entries right) h)
no_key (Some key) book right h = tt

pub returns : goal.returns
returns c =
    let joined_rows = YieldsList-from_front_of_both {v = deref_pair} {v' = deref_pair} row_of (merge_join_by lent_by_key) join lent lent (λ _. refl) (λ _. refl) joined
    (λ p on at. let r = c.merge_join_by.ensures.runs p on at in (r.0, r.1, (r.2.0, r.2.1, (r.2.2.1 lent_by_key (search rules)).2)))
    (YieldsList-from_rest (map.entries c.args.book.now) (c.iter.ensures ∙ c.in_ok-mine.ensures.rows))
    (YieldsList-from_rest (map.entries c.args.right.now) (c.merge_join_by.ensures.second.0 ∙ c.iter-2.ensures ∙ c.in_ok-theirs.ensures.rows)) in
    let run = c.find_map-least.ensures.runs in
    let finds = found _ _ run.0 c.find_map-least.result run.1 joined_rows (search rules) (λ x k. search rules) (λ x key k. search rules) run.2 in
    record {
      some = some_key c.find_map-least.result c.args.book.now c.args.right.now finds;
      none = no_key c.find_map-least.result c.args.book.now c.args.right.now finds;
    }
