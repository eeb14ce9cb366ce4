pub mod LinkFault
pub mod Link
pub mod Front
pub mod Reader
pub mod Replies
pub mod Incoming
pub mod Network
pub mod Ahead
