pub mod Answers
pub mod Words
pub mod Journaled
pub mod SampleBook
pub mod ReadAlike
