pub mod Answers
pub mod Asked
pub mod Told
pub mod Run
pub mod ArchiveAsked
pub mod Archived
pub mod Faults
pub mod Tells
