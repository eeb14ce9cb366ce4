use Rattle.std.proofs.Common.{ap}
use Rattle.issuer_rows.specs.ReversalTable as table
use Rattle.issuer_rules.proofs.FollowingLaws.{follows_as}
use Rattle.issuer_rules.proofs.StageLaws.{answers_with_none}
use Rattle.issuer_rules.proofs.reversal.decide_on_paid.Goals as goal

pub returns-in_default : goal.returns-in_default
returns-in_default g c =
    answers_with_none (follows_as _ _ _ _ _ (ap (table.on_paid c.args.reversal.now c.args.kept.now) c.in_default.is) c.requires.follows) c.unchanged.ensures
