pub mod DumpLaw
pub mod MoreMemory
pub mod Named
pub mod Placed
pub mod UnwindLaw
pub mod DoneLaw
pub mod ReadLaws
