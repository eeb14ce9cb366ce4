use Rattle.std.proofs.Common.{◌≡◌, ◌++◌, List, get_or, slice_get, Option, Some, IfSome, sym, ap, subst, ◌∙◌, rules}
use Rattle.std.proofs.lemmas.Option.{get_or_from_slice_get}
use Rattle.issuer_words.specs.Words.{IsOfKind, RowKey, RowVal}
use Rattle.issuer_view.specs.Words.{value_in}
use Rattle.issuer_view.proofs.KindLaws.{found_suits}
use Rattle.issuer_view.proofs.ListLaws.{found_at, found_behind}
use Rattle.issuer_view.proofs.read_set.ReadSet.get.Goals as goal
use Rattle.issuer_view.proofs.read_set.ReadSet.get.Goals.{After-copied}

-- the row that stands here is the one that was looked for
seen : (c : goal.After-index-as_slice-place) → value_in (c.self.inside.few ++ c.self.inside.more) c.args.key.now ≡ Some (get_or c.as_slice-in-Some.result.now c.in-Some.place c.index-as_slice-place.result).1
seen c =
    let there = c.in-Some.ensures.found in
    let at = ap (λ (rows : List (RowKey × Option RowVal)). slice_get rows c.in-Some.place) (sym c.as_slice.ensures) ∙ there.1 in
    found_at c.self.inside.few c.self.inside.more c.in-Some.place c.args.key.now there.0 c.self.invariant.1 at
    ∙ ap (λ (e : RowKey × Option RowVal). Some e.1) (sym (get_or_from_slice_get c.self.inside.few c.in-Some.place (c.args.key.now, there.0) c.index-as_slice-place.result at) ∙ ap (λ (rows : List (RowKey × Option RowVal)). get_or rows c.in-Some.place c.index-as_slice-place.result) (sym c.as_slice-in-Some.ensures))

pub returns-in-Some-clause-value : goal.returns-in-Some-clause-value
returns-in-Some-clause-value c = sym (seen c) ∙ ap (λ (rows : List (RowKey × Option RowVal)). value_in rows c.args.key.now) c.self.view_is

pub returns-in-Some-clause-kind : goal.returns-in-Some-clause-kind
returns-in-Some-clause-kind c =
    subst (λ (found : Option (Option RowVal)). IfSome found (λ row. IfSome row (IsOfKind c.args.key.now))) (seen c)
    (found_suits (λ k row. IfSome row (IsOfKind k)) (c.self.inside.few ++ c.self.inside.more) c.args.key.now c.self.invariant.0)

-- the row is found behind the first ones, or not at all
behind : (c : After-copied) → c.copied.result ≡ value_in (c.self.inside.few ++ c.self.inside.more) c.args.key.now
behind c =
    let found : c.copied.result ≡ value_in c.self.inside.more c.args.key.now = search rules in
    let none = ap (λ (rows : List (RowKey × Option RowVal)). value_in rows c.args.key.now) (sym c.as_slice.ensures) ∙ c.in-None.ensures.absent in
    found ∙ sym (found_behind c.self.inside.few c.self.inside.more c.args.key.now none)

pub returns-in-None-clause-value : goal.returns-in-None-clause-value
returns-in-None-clause-value c = behind c ∙ ap (λ (rows : List (RowKey × Option RowVal)). value_in rows c.args.key.now) c.self.view_is

pub returns-in-None-clause-kind : goal.returns-in-None-clause-kind
returns-in-None-clause-kind c =
    subst (λ (found : Option (Option RowVal)). IfSome found (λ row. IfSome row (IsOfKind c.args.key.now))) (sym (behind c))
    (found_suits (λ k row. IfSome row (IsOfKind k)) (c.self.inside.few ++ c.self.inside.more) c.args.key.now c.self.invariant.0)
