mod LineSteps
mod Steps
mod BlockSteps
mod PackedAgain
mod Fronts
mod BlocksPackedAgain
pub mod Faults
pub mod OneMore
