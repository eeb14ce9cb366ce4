pub mod Day
pub mod Totals
pub mod Escaped
pub mod Lines
pub mod Meaning
pub mod Page
