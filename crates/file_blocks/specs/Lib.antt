pub mod BlockDecider
pub mod Blocks
pub mod BlockFiles
