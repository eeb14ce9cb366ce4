pub mod Rest
pub mod Sheets
