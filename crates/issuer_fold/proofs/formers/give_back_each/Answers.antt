use Rattle.std.proofs.Common.{ap, subst, sym, ◌∙◌}
use Rattle.issuer_fold.specs.Formers.{Former, AreFormersOfKind, AreThere, given_back}
use Rattle.issuer_fold.proofs.BackLaws.{given_back-last, last_of_kind, last_there}
use Rattle.issuer_fold.proofs.formers.give_back_each.Goals as goal

-- the row that is given back was written last
pub give_back_row-requires-clause-there : goal.give_back_row-requires-clause-there
give_back_row-requires-clause-there c =
    (last_there c.loop-key.book c.pop.new.self.items (c.in-Some.key, c.in-Some.former) (subst (AreThere c.loop-key.book) c.in-Some.ensures.items c.loop-key.invariant.there)).0

pub give_back_row-requires-clause-kind : goal.give_back_row-requires-clause-kind
give_back_row-requires-clause-kind c =
    (last_of_kind c.pop.new.self.items (c.in-Some.key, c.in-Some.former) (subst AreFormersOfKind c.in-Some.ensures.items c.loop-key.invariant.kinds)).0

pub loop-key-preserved : goal.loop-key-preserved
loop-key-preserved c =
    let book = c.loop-key.book in
    let left = c.pop.new.self.items in
    let last : Former = (c.in-Some.key, c.in-Some.former) in
    let all = c.in-Some.ensures.items in
    record {
      same = rw c.give_back_row.ensures (sym (given_back-last book left last) ∙ ap (given_back book) (sym all) ∙ c.loop-key.invariant.same);
      there = rw c.give_back_row.ensures (last_there book left last (subst (AreThere book) all c.loop-key.invariant.there)).1;
      kinds = (last_of_kind left last (subst AreFormersOfKind all c.loop-key.invariant.kinds)).1;
    }
