pub mod Names
pub mod LineLemmas
pub mod PackLemmas
pub mod PlainLemmas
pub mod ArgumentLemmas
pub mod PlainSteps
