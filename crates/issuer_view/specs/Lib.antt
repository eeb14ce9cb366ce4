pub mod Recording
pub mod RowSets
pub mod Words
