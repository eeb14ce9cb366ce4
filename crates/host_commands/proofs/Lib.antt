pub mod Answering
pub mod SameLink
pub mod SettingWords
pub mod LinkWords
pub mod Together
pub mod Following
pub mod Repeats
pub mod OneReading
