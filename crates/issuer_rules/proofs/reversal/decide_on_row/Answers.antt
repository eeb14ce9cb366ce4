use Rattle.std.proofs.Common.{Some, ap}
use Rattle.issuer_rows.specs.ReversalTable as table
use Rattle.issuer_rows.specs.declared.original_row.OriginalRow.{OriginalRow}
use Rattle.issuer_rules.proofs.FollowingLaws.{follows_as}
use Rattle.issuer_rules.proofs.StageLaws.{answers_with_none}
use Rattle.issuer_rules.proofs.reversal.decide_on_row.Goals as goal

pub returns-in-Ahead : goal.returns-in-Ahead
returns-in-Ahead g c =
    answers_with_none
    (follows_as _ _ _ _ _ (ap (λ (row : OriginalRow). table.on_reversed c.args.reversal.now (Some row)) c.in-Ahead.is) c.requires.at.follows) c.unchanged.ensures
