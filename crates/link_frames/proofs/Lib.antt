pub mod Fronts
pub mod Once
pub mod Parts
pub mod Runs
pub mod InOrder
pub mod Tails
pub mod AheadFronts
