mod ApartSteps
pub mod DoneLemmas
