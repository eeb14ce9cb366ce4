use Rattle.std.proofs.Common.{◌≡◌, Option, Some, IfSome, subst, ◌∙◌}
use Rattle.std.proofs.lemmas.Map.Entries.{lookup_from_place}
use Rattle.issuer_rows.proofs.BookLaws.{get_seen, key_eq_equivalence}
use Rattle.issuer_rows.proofs.book.Book.row_near.Goals as goal
use Rattle.issuer_rows.specs.Book.{value_at}
use Rattle.issuer_rows.specs.RowVal.{IsOfKind}
use Rattle.issuer_rows.specs.declared.row_val.RowVal.{RowVal}

found : (c : goal.In_ok-val) → value_at c.self.inside.rows.entries c.args.key.now ≡ Some c.in_ok-val.val.now
found c =
    lookup_from_place key_eq_equivalence c.self.inside.rows.entries c.last.result c.args.key.now c.in_ok-val.val.now c.len-count.ensures.unique c.in_ok-val.ensures

pub returns-clause-value : goal.returns-clause-value
returns-clause-value c = rw (← c.self.view_is) (get_seen c.self.inside.rows.entries c.args.key.now ∙ found c)

pub returns-clause-kind : goal.returns-clause-kind
returns-clause-kind c = subst (λ (row : Option RowVal). IfSome row (IsOfKind c.args.key.now)) (found c) (c.self.invariant c.args.key.now)
