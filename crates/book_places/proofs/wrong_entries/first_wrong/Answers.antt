use Rattle.std.proofs.Common.{◌≡◌, ◌+◌, ◌++◌, ◌∷◌, [], suc, List, take, drop, refl, sym, ap, ◌∙◌, arith}
use Rattle.std.proofs.Math.Seq.{split_at}
use Rattle.std.proofs.lemmas.List.{take_more, length-take-le}
use Rattle.serde_json.specs.declared.value.Value.{Value}
use Rattle.serde_json.specs.View.{view, items_view}
use Rattle.book_laws.specs.Lists.{add_entry, add_entries}
use Rattle.book_places.proofs.OneMore.{one_more, refused}
use Rattle.book_places.proofs.wrong_entries.first_wrong.Goals as goal

pub loop-index-init : goal.loop-index-init
unfolding add_entries
loop-index-init c = refl

pub returns-in_default-clause-wrong : goal.returns-in_default-clause-wrong
returns-in_default-clause-wrong c =
    let entries = c.args.entries.now in
    let i = c.loop-index.index in
    let x = c.index-entries-index.result in
    let read = add_entry c.args.version c.args.list (view x) c.loop-index.book in
    record {
      before = take i entries;
      entry = x;
      behind = drop (suc i) entries;
      cut = split_at entries i x c.loop-index-test.true ∙ ap (λ (y : Value). take i entries ++ y ∷ drop (suc i) entries) (sym c.index-entries-index.is);
      count = length-take-le i entries (omega (arith, c.loop-index-test.true));
      with_them = c.loop-index.book;
      read = c.loop-index.invariant;
      wrong = refused c.in-Err.fault read c.in_default.not-OutOfMemory c.in-Err.ensures;
    }

pub loop-index-preserved : goal.loop-index-preserved
loop-index-preserved c =
    let entries = c.args.entries.now in
    let i = c.loop-index.index in
    let x = c.index-entries-index.result in
    let grown : take (i + 1) entries ≡ take i entries ++ x ∷ [] =
    take_more entries i x c.loop-index-test.true ∙ ap (λ (y : Value). take i entries ++ y ∷ []) (sym c.index-entries-index.is) in
    let more = one_more c.args.version c.args.list (take i entries) x c.args.book.now c.loop-index.book c.add_entry.new.book c.loop-index.invariant c.in-Ok.ensures in
    ap (λ (front : List Value). add_entries c.args.version c.args.list (items_view front) c.args.book.now) grown ∙ more
