pub mod Back
pub mod ByKind
pub mod Digest
pub mod Escapes
pub mod Left
pub mod Pieces
pub mod Members
pub mod Prepared
