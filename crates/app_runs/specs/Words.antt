-- The words of jobs, from one place.
pub use Rattle.app_jobs.specs.Audited.{AreHeld, IsAudited}
pub use Rattle.app_jobs.specs.AuditedBlocks.{AreBlocksAudited}
pub use Rattle.app_jobs.specs.BlockFaults.{IsBlockAuditingFault, IsBlockFileFault, IsBlockRepliesFault, IsBlocksFault}
pub use Rattle.app_jobs.specs.Decided.{Holding, IsBookOf, IsDecided}
pub use Rattle.app_jobs.specs.DecidedBlocks.{AreBlocksDecided, AreBlocksKept}
pub use Rattle.app_jobs.specs.Faults.{IsAuditingFault, IsBatchFault, IsBookFault, IsDecidingFault, IsFaultInOrder, IsReplyFileFault}
pub use Rattle.app_jobs.specs.JobFault.{number_of, part_of}
pub use Rattle.app_jobs.specs.JournalFaults.{IsJournalAuditingFault, IsJournalFault, IsPlayingFault}
pub use Rattle.app_jobs.specs.Journaled.{IsAuditedWithJournal}
pub use Rattle.app_jobs.specs.declared.halt.Halt.{Halt}
pub use Rattle.app_jobs.specs.declared.job_fault.JobFault.{JobFault}
