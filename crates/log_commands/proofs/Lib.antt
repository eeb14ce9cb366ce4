pub mod Faults
pub mod Placed
pub mod Audits
