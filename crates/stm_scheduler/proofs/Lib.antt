pub mod Boards
pub mod Choices
pub mod Lists
