use Rattle.std.proofs.Common.{Some, subst}
use Rattle.indexmap.proofs.CallerLemmas.{updates-with_value_at}
use Rattle.indexmap.specs.IndexMap.{Updates, with_value_at}
use Rattle.issuer_rows.proofs.BookLaws.{key_eq_equivalence}
use Rattle.issuer_rows.proofs.book.copy_at.Goals as goal
use Rattle.issuer_rows.specs.RowKey.{key_eq}
use Rattle.issuer_rows.specs.declared.row_val.RowVal.{RowVal}

pub returns-clause-found : goal.returns-clause-found
returns-clause-found c _ =
    let found = c.stands_at.ensures.there c.if-not-stands_at.false in
    subst (λ (x : RowVal). Updates key_eq c.args.rows.now (with_value_at c.args.rows.now c.args.place c.copy_from.new.self) c.args.key.now (Some x)) c.copy_from.ensures
    (updates-with_value_at c.args.rows.now c.args.place c.copy_from.new.self key_eq_equivalence c.pair_mut-there.ensures.unique c.args.key.now found.0 found.1)
