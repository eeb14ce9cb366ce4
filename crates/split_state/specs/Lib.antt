pub mod CursorRule
pub mod Progress
pub mod Standing
pub mod Sighted
pub mod Staged
