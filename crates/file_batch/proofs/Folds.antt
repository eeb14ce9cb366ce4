-- There are as many replies as frames.
pub use Rattle.issuer_fold.proofs.FoldLaws.{length-replies_to as as_many}
