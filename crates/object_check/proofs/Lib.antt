mod Faults
mod OrcSections
mod SmallSites
mod Verdicts
pub mod RowForms
pub mod RowOrder
mod Found
pub mod OneCount
pub mod Allowed
mod InitTexts
pub mod SmapSites
