pub mod Blocks
pub mod Difference
pub mod Finding
pub mod JoinedRows
pub mod PlayFinding
pub mod Texts
