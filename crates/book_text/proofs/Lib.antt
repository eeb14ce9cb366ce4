pub mod Entries
pub mod Printing
pub mod Tokens
pub mod Plain
pub mod ByKind
