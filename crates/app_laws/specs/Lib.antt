pub mod Acted
pub mod Audits
pub mod Faults
pub mod Files
pub mod Journals
pub mod Kept
pub mod NextDay
pub mod Repeats
