pub mod Answering
pub mod ReadsOn
