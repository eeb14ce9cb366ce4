use Rattle.std.proofs.Common.{map, ap, sym, ◌∙◌, Option, false}
use Rattle.std.specs.Prelude.{option_map, unwrap_or}
use Rattle.serde_json.specs.Data.{Members}
use Rattle.serde_json.specs.View.{members_view}
use Rattle.book_laws.specs.Fields.{are_keys}
use Rattle.book_laws.proofs.ListLemmas.{no_more}
use Rattle.book_entries.proofs.fields.has_keys.Goals as goal

pub returns : goal.returns
returns c =
    let keys = map (λ key. key.now) c.args.keys.now in
    let seen = ap (λ (o : Option Members). unwrap_or (option_map (are_keys keys) o) false) c.in-Some.ensures in
    let none = ap (λ es. are_keys (map (λ key. key.now) c.loop-name.rest.now) (members_view es)) (sym c.in-None.ensures.steps.0) in
    let all = c.loop-name.invariant in
    let start = c.iter-name-items.ensures.rest in
    let start2 = c.into_iter-name-iterator.ensures.into_iter_gives in
    c.is_empty.ensures ∙ no_more c.loop-name.rest.now ∙ none ∙ all ∙ ap (λ es. are_keys keys (members_view es)) (start2 ∙ start) ∙ seen
