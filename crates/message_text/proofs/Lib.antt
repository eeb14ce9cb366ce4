pub mod ElementMembers
mod Spelled
mod GivenWords
