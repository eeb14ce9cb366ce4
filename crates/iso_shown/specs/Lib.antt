pub mod Masked
pub mod Shown
pub mod Opening
