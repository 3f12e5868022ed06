pub mod ListsLemmas
pub mod NameSetLemmas
