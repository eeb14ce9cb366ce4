pub mod Lines
pub mod Rules
pub mod Words
