pub mod JoinLaws
pub mod OrderLaws
pub mod PartLaws
pub mod QueueLaws
pub mod StepLaws
pub mod WholeLaws
pub mod ApartLaws
pub mod TieLaws
