use Rattle.std.proofs.Common.{◌≡◌, IfOk, subst, ap, ◌∙◌}
use Rattle.std.specs.Prelude.{codes}
use Rattle.issuer_rows.specs.Fold.{Rows}
use Rattle.app_runs.specs.SampleBook.{with_card}
use Rattle.app_runs.proofs.sample.sample_book.Goals as goal

pub returns : goal.returns
returns c =
    subst (λ (rows : Rows). IfOk c.with_card-2.result (λ book. book ≡ with_card rows (codes "4111110000000013") 500))
    (c.in_ok-first.ensures ∙ ap (λ (rows : Rows). with_card rows (codes "4111110000000005") 10000) c.new.ensures)
    c.with_card-2.ensures
