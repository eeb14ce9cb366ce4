pub mod Blocking
pub mod ReadBlocks
pub mod ReadReplyBlocks
