pub mod Asked
pub mod CommandFault
pub mod Names
pub mod Faults
pub mod Replayed
pub mod Replays
pub mod Audited
pub mod Audits
