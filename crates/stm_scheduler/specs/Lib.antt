pub mod Board
pub mod Cursors
pub mod Sound
pub mod Words
