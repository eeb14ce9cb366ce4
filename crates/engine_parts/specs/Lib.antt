pub mod Decided
pub mod TwoBooks
pub mod Plan
pub mod Ties
