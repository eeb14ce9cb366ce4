pub mod AnsweredFiles
pub mod Audits
pub mod BlockFaults
pub mod Faults
pub mod FirstBlocks
pub mod Held
pub mod JournalFaults
