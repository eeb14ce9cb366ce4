pub mod PartBooks
pub mod Together
