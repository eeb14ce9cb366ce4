pub mod Placing
pub mod Puts
