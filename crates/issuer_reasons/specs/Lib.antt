pub mod Behind
pub mod Explained
