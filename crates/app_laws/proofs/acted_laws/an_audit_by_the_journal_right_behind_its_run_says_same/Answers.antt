use Rattle.app_laws.proofs.Acted.{right_behind_by_journal}
use Rattle.app_laws.proofs.acted_laws.an_audit_by_the_journal_right_behind_its_run_says_same.Goals as goal

pub returns : goal.returns
returns g c names workers journal strictness deciding auditing opened closed old new status two k l asks asks_audit run audited =
    right_behind_by_journal _ _ (g.F.Files.holds c.args.before.now) (g.F.Files.holds c.args.left.now) (g.F.Files.holds c.args.after.now)
    (g.F.Files.failing c.args.before.now) (g.F.Files.failing c.args.left.now)
    names workers journal strictness deciding auditing opened closed old new status two k l asks asks_audit run audited
