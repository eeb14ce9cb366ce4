pub mod Rows
pub mod Lines
pub mod Tokens
pub mod RowTokens
