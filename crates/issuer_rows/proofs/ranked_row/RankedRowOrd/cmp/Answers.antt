use Rattle.std.proofs.Common.{◌≡◌, ◌∙◌, rules}
use Rattle.std.specs.Ordering.{nat_cmp, ordering_then}
use Rattle.issuer_rows.proofs.RankLaws.{by_rank}
use Rattle.issuer_rows.specs.RowKey.{key_cmp}
use Rattle.issuer_rows.proofs.ranked_row.RankedRowOrd.cmp.Goals as goal

pub returns : goal.returns
returns c =
    let mine = c.self.inside in
    let theirs = c.other.inside in
    let compared : c.then_with.result ≡ ordering_then (nat_cmp mine.rank theirs.rank) (key_cmp mine.key.now theirs.key.now) = search rules in
    compared
    ∙ (λ i. ordering_then (nat_cmp (c.self.invariant.0 i) (c.other.invariant.0 i)) (key_cmp mine.key.now theirs.key.now))
    ∙ by_rank mine.key.now theirs.key.now c.self.invariant.1 c.other.invariant.1
    ∙ (λ i. key_cmp (c.self.view_is i).0 (c.other.view_is i).0)
