pub mod Following
pub mod Needs
pub mod Stage
