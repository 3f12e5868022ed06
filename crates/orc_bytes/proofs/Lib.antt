pub mod RowRead
pub mod Decoding
pub mod Excluded
pub mod Named
pub mod SlotLemmas
pub mod OneList
pub mod ReadBack
pub mod Held
