pub mod Chains
pub mod Entries
pub mod Memory
pub mod Resolves
pub mod Words
