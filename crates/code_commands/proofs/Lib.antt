pub mod Empty
pub mod EntryEnds
pub mod EntryLaws
pub mod EntryUncheckable
pub mod NoFault
mod ShowCode
pub mod ShowLaws
mod ShowLines
pub mod SitesEnds
pub mod SitesGets
pub mod SitesLaws
