pub mod Answers
pub mod Journal
pub mod Logged
pub mod Marks
pub mod Plays
pub mod ReplayFault
pub mod Texts
pub mod Words
