pub mod OneLine
pub mod Says
pub mod Tells
pub mod Uses
pub mod Words
