pub mod Begun
pub mod Former
pub mod Run
pub mod Formers
pub mod InPlace
