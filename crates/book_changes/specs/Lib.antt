pub mod Migration
pub mod Reversible
pub mod Runs
pub mod Archive
pub mod Days
pub mod Deciding
pub mod Joining
