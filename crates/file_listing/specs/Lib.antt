pub mod Bodies
pub mod Faults
pub mod Lines
pub mod BlockLines
pub mod BlockText
pub mod BodyLines
pub mod Places
