use Rattle.std.proofs.Common.{◌≡◌, ◌+◌, ◌++◌, ◌∷◌, [], List, take, get_or, refl, ap, ◌∙◌, arith}
use Rattle.std.proofs.lemmas.List.{take_more}
use Rattle.serde_json.specs.View.{view}
use Rattle.book_laws.specs.Reading.{add_lists}
use Rattle.book_laws.specs.declared.row_list.RowList.{RowList}
use Rattle.book_laws.specs.declared.row_list.RowList.TheVariants.{Cards}
use Rattle.book_places.specs.Places.{IsInList}
use Rattle.book_places.proofs.Found.{in_lists, where_none, where_some}
use Rattle.book_places.proofs.OneMore.{one_more_list}
use Rattle.book_places.proofs.places.place_in_lists.Goals as goal

pub loop-list-init : goal.loop-list-init
unfolding add_lists
loop-list-init c = refl

pub returns-in-Ok-Some-clause-wrong : goal.returns-in-Ok-Some-clause-wrong
returns-in-Ok-Some-clause-wrong c =
    in_lists c.args.version c.args.lists.now c.loop-list.list-index (view c.args.top.now) c.args.book.now c.loop-list.book c.in-Ok-Some.wrong (omega (arith, c.loop-list-test.true)) c.loop-list.invariant
    (where_some c.in-Ok-Some.field-0 c.in-Ok-Some.wrong (IsInList c.args.version (get_or c.args.lists.now c.loop-list.list-index Cards) (view c.args.top.now) c.loop-list.book)
    c.in-Ok-Some.field-0-is c.in-Ok-Some.ensures.wrong)

pub loop-list-preserved : goal.loop-list-preserved
loop-list-preserved c =
    let lists = c.args.lists.now in
    let i = c.loop-list.list-index in
    let top = view c.args.top.now in
    let grown : take (i + 1) lists ≡ take i lists ++ get_or lists i Cards ∷ [] = take_more lists i Cards (omega (arith, c.loop-list-test.true)) in
    ap (λ (front : List RowList). add_lists c.args.version front top c.args.book.now) grown
    ∙ one_more_list c.args.version (take i lists) (get_or lists i Cards) top c.args.book.now c.loop-list.book c.place_in_list.new.book c.loop-list.invariant
    (where_none c.in-Ok-None.field-0 _ c.in-Ok-None.field-0-is c.in-Ok-None.ensures.right)
