use Rattle.file_devices.specs.BatchNames.{names_of}
use Rattle.app_laws.proofs.JournalFiles.{no_fault_by_journal, says_same_by_journal}
use Rattle.app_laws.proofs.journal_files.an_audit_by_the_journal_of_a_run_says_same.Goals as goal

pub returns-clause-same : goal.returns-clause-same
returns-clause-same g c count found inputs own run audited =
    says_same_by_journal _ _ _ _ (names_of c.args.names.now) _ count found inputs own.0 own.1 run audited

pub returns-clause-fault : goal.returns-clause-fault
returns-clause-fault g c count fault inputs own run auditing =
    no_fault_by_journal _ _ _ (g.F.Files.failing c.args.after.now) (names_of c.args.names.now) _ count fault inputs own.0 own.1 run auditing
