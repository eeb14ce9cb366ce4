pub mod Asked
pub mod Replayed
mod Drives
mod Kept
mod OneDrive
mod Turning
