pub mod Cuts
pub mod Found
pub mod Masks
pub mod Uniform
