pub mod PutTexts
pub mod NamesApart
pub mod OwnBodies
pub mod Parts
pub mod InParts
pub mod Fronts
mod Outside
