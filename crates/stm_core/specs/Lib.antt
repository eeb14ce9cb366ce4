pub mod Origin
pub mod Sound
pub mod Unread
