pub mod CodeLemmas
pub mod InsnListLemmas
pub mod KnownLemmas
pub mod ListingLemmas
pub mod NumberLemmas
pub mod QueryLemmas
pub mod ReadLemmas
pub mod SameInsns
