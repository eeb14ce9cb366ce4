pub mod Parts
pub mod ReadBodies
pub mod Pieces
pub mod Lengths
pub mod Folds
pub mod ReadReplies
pub mod Handed
pub mod Counting
