pub mod KindLaws
pub mod ListLaws
pub mod LogLaws
