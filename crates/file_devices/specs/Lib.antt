pub mod Appending
pub mod BatchNames
pub mod Claims
pub mod Devices
pub mod Failing
pub mod Held
pub mod Holding
pub mod HostReason
