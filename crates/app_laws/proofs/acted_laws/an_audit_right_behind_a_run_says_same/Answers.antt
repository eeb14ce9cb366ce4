use Rattle.app_laws.proofs.Acted.{right_behind}
use Rattle.app_laws.proofs.acted_laws.an_audit_right_behind_a_run_says_same.Goals as goal

pub returns : goal.returns
returns g c names what how deciding auditing opened closed old new status is two k l asks asks_audit run audited =
    right_behind _ _ (g.F.Files.holds c.args.before.now) (g.F.Files.holds c.args.left.now) (g.F.Files.holds c.args.after.now)
    (g.F.Files.failing c.args.before.now) (g.F.Files.failing c.args.left.now)
    names what how deciding auditing opened closed old new status is two k l asks asks_audit run audited
