pub mod Answered
pub mod Finished
pub mod Journaled
pub mod Marked
pub mod SomePlay
pub mod Drives
pub mod Turns
