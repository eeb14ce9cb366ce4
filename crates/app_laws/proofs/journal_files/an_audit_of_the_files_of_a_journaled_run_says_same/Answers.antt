use Rattle.file_devices.specs.BatchNames.{names_of}
use Rattle.app_laws.proofs.JournalFiles.{no_fault_without, says_same_without}
use Rattle.app_laws.proofs.journal_files.an_audit_of_the_files_of_a_journaled_run_says_same.Goals as goal

pub returns-clause-same : goal.returns-clause-same
returns-clause-same g c count found inputs apart run audited =
    says_same_without _ _ _ _ (names_of c.args.names.now) _ count found inputs apart run audited

pub returns-clause-fault : goal.returns-clause-fault
returns-clause-fault g c count fault inputs apart run auditing =
    no_fault_without _ _ _ (g.F.Files.failing c.args.after.now) (names_of c.args.names.now) _ count fault inputs apart run auditing
