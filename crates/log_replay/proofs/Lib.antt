pub mod Cutting
pub mod Taking
pub mod Reading
pub mod Gathers
