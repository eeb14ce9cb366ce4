use Rattle.file_devices.specs.BatchNames.{names_of}
use Rattle.app_laws.proofs.BlockFiles.{no_fault_of_blocks, says_same_of_blocks}
use Rattle.app_laws.proofs.run_files.an_audit_of_the_files_of_blocks_says_same.Goals as goal

pub returns-clause-same : goal.returns-clause-same
returns-clause-same g c count messages found inputs decided audited =
    says_same_of_blocks _ _ _ _ (names_of c.args.names.now) count messages found inputs decided audited

pub returns-clause-fault : goal.returns-clause-fault
returns-clause-fault g c count messages fault inputs decided auditing =
    no_fault_of_blocks _ _ _ (g.F.Files.failing c.args.after.now) (names_of c.args.names.now) count messages fault inputs decided auditing
