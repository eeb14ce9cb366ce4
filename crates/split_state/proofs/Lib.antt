pub mod AgreementLaws
pub mod LedgerLaws
mod StepLaws
pub mod Sights
