pub mod Found
pub mod OldRows
pub mod OneMore
pub mod Values
