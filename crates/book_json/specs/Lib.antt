pub mod ReadsOn
