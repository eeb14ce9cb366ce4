pub mod Bodies
pub mod Device
pub mod Ahead
pub mod Parts
pub mod Reads
pub mod Writes
pub mod Growing
