pub mod FollowingLaws
pub mod PutLaws
pub mod RefundLaws
pub mod StageLaws
