pub mod RowBytes
pub mod RelocBytes
pub mod Sections
pub mod FaultText
pub mod Faults
pub mod Parts
pub mod Laws
