pub mod OriginalFronts
