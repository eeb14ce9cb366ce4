use Rattle.file_devices.specs.BatchNames.{names_of}
use Rattle.app_laws.proofs.RunFiles.{no_fault_of_files, says_same_of_files}
use Rattle.app_laws.proofs.run_files.an_audit_of_the_files_of_a_run_says_same.Goals as goal

pub returns-clause-same : goal.returns-clause-same
returns-clause-same g c count found inputs decided audited =
    says_same_of_files _ _ _ _ (names_of c.args.names.now) count found inputs decided audited

pub returns-clause-fault : goal.returns-clause-fault
returns-clause-fault g c count fault inputs decided auditing =
    no_fault_of_files _ _ _ (g.F.Files.failing c.args.after.now) (names_of c.args.names.now) count fault inputs decided auditing
