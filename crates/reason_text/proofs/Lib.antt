pub mod Ascii
pub mod SoFar
