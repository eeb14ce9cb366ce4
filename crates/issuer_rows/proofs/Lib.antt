pub mod BookLaws
pub mod ExpiryLaws
pub mod KeyLaws
pub mod ListedRows
pub mod OverlayLaws
pub mod PutsOnce
pub mod RankLaws
