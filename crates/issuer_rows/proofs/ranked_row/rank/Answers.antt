use Rattle.std.proofs.Common.{ap, sym, ◌∙◌}
use Rattle.issuer_rows.proofs.RankLaws.{with_digits-append}
use Rattle.issuer_rows.specs.Rank.{digits_of, rank_of, with_digits}
use Rattle.issuer_rows.proofs.ranked_row.rank.Goals as goal

pub returns-in-Original-clause-rank : goal.returns-in-Original-clause-rank
returns-in-Original-clause-rank c =
    let acquirer = c.in-Original.identity.acquirer.0 in
    let stan = c.in-Original.identity.stan.0 in
    c.with_digits-in-Original-2.ensures.value
    ∙ (λ i. with_digits (c.with_digits-in-Original.ensures.value i) (digits_of 6 (c.as_slice-in-Original-2.ensures.text i)))
    ∙ (λ i. with_digits (with_digits 3 (digits_of 11 (c.as_slice-in-Original.ensures.text i))) (digits_of 6 stan))
    ∙ sym (with_digits-append 3 (digits_of 11 acquirer) (digits_of 6 stan))
    ∙ ap rank_of (sym c.in-Original.is)
