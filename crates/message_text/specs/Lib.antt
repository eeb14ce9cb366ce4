pub mod Values
pub mod Lines
pub mod Names
pub mod Texts
pub mod Givens
pub mod Made
