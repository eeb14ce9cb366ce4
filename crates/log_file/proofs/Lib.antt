pub mod Puts
pub mod Framing
pub mod Headers
pub mod Ahead
pub mod Stepping
pub mod Logging
