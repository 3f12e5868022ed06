pub mod OverBytes
pub mod TakenLists
pub mod EverySection
pub mod ObjectTexts
pub mod SectionNames
pub mod MarkedNames
