pub mod Turns
pub mod Histories
pub mod Turning
pub mod Kept
pub mod Lines
pub mod Fresh
pub mod Seats
pub mod Merged
