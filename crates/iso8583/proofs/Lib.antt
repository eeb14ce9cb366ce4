pub mod AsciiLaws
pub mod NumberLaws
pub mod OrderLaws
pub mod PaddedLemmas
