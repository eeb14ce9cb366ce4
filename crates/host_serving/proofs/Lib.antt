pub mod Takes
pub mod Turns
pub mod Appendings
pub mod Servings
pub mod Watches
