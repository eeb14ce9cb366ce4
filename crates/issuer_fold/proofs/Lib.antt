pub mod FoldLaws
pub mod UndoLaws
pub mod BackLaws
