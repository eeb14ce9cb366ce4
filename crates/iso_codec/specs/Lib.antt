pub mod Sides
pub mod Texts
