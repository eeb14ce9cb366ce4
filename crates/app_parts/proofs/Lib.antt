pub mod FaultsOf
pub mod DoneParts
pub mod Answered
pub mod Joined
pub mod OneRun
pub mod Said
pub mod Files
