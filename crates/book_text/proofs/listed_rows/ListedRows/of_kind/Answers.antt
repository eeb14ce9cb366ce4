use Rattle.std.proofs.Common.{◌≡◌, ℕ, ◌-◌, ◌<◌, ◌≤◌, List, ap, arith, drop, get_or, length, map, rules, subst, sym, take, ◌∙◌}
use Rattle.std.proofs.lemmas.Bool.{leb-false, ltb-true}
use Rattle.std.proofs.lemmas.List.{take_rest}
use Rattle.std.proofs.lemmas.List.Sorted.{IsNonDecreasingBy-drop, IsNonDecreasingBy-take, IsPartitionPoint-from_clause, IsPartitionedBy-leb, IsPartitionedBy-ltb}
use Rattle.std.specs.Map.Iter.{deref_pair}
use lib.Dec.{leb, ltb}
use Rattle.issuer_words.specs.Words.{AllOfKind, kind_of}
use Rattle.book_laws.specs.Text.{rows_of}
use Rattle.book_text.specs.ByKind.{kind_of_list}
use Rattle.book_text.proofs.ByKind.{Ref, all_in, kinds_within, order_of_refs}
use Rattle.book_text.proofs.listed_rows.ListedRows.of_kind.Goals as goal

pub returns-clause-rows : goal.returns-clause-rows
returns-clause-rows c =
    let rows : List Ref = c.self.inside.rows.now in
    let first = c.partition_point-first.result in
    let count = c.partition_point-count.result in
    let kind = c.kind_of_list-kind.result in
    let list = c.args.list in
    let from : List Ref = take (length rows - first) (drop first rows) in
    let rest : from ≡ drop first rows = take_rest rows first in
    let order = order_of_refs rows c.self.invariant in
    let start = IsPartitionPoint-from_clause (λ (row : Ref). ltb (kind_of row.0.now) kind) rows first c.partition_point-first.ensures.partitioned
    (IsPartitionedBy-ltb (λ (row : Ref). kind_of row.0.now) rows kind order) (λ a r q k. search rules) in
    let end = IsPartitionPoint-from_clause (λ (row : Ref). leb (kind_of row.0.now) kind) from count c.partition_point-count.ensures.partitioned
    (IsPartitionedBy-leb (λ (row : Ref). kind_of row.0.now) from kind
    (IsNonDecreasingBy-take (λ (row : Ref). kind_of row.0.now) (length rows - first) (drop first rows)
    (IsNonDecreasingBy-drop (λ (row : Ref). kind_of row.0.now) first rows order)))
    (λ a r q k. search rules) in
    let before : (i : ℕ) (d : Ref) → i < first → kind_of (get_or rows i d).0.now < kind_of_list list
    = λ i d near. omega (arith, ltb-true _ _ (start.0 i d (omega arith) near), c.kind_of_list-kind.ensures) in
    let behind : (i : ℕ) (d : Ref) → count ≤ i → i < length from → kind_of_list list < kind_of (get_or from i d).0.now
    = λ i d far inside. omega (arith, leb-false _ _ (end.1 i d far inside), c.kind_of_list-kind.ensures) in
    ap (λ (l : List Ref). rows_of list (map deref_pair (take count l))) rest
    ∙ all_in list rows first count c.partition_point-first.ensures.bound c.self.invariant.kinds before
    (subst (λ (l : List Ref). (i : ℕ) (d : Ref) → count ≤ i → i < length l → kind_of_list list < kind_of (get_or l i d).0.now) rest behind)
    ∙ ap (rows_of list) c.self.view_is

pub returns-clause-kinds : goal.returns-clause-kinds
returns-clause-kinds c =
    let rows : List Ref = c.self.inside.rows.now in
    let count = c.partition_point-count.result in
    subst (λ (l : List Ref). AllOfKind (map deref_pair (take count l))) (sym (take_rest rows c.partition_point-first.result))
    (kinds_within rows c.partition_point-first.result count c.self.invariant.kinds)
