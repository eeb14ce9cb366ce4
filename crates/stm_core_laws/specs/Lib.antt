pub mod Follows
pub mod Holds
pub mod Log
pub mod Play
pub mod Run
pub mod State
pub mod Step
pub mod Words
