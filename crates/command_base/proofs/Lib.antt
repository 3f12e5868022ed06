pub mod ConcludeLemmas
pub mod PartLemmas
pub mod PrintLemmas
pub mod DumpLaws
pub mod DumpLemmas
pub mod UnwindLaws
pub mod UnwindLemmas
pub mod NamesLemmas
pub mod InputLemmas
pub mod Content
pub mod FaultStops
pub mod Stops
pub mod ListLaws
mod SiteLines
pub mod CfaLaws
mod LayoutLemmas
mod ObjectLemmas
mod SameParts
pub mod TableLemmas
pub mod MergeLaws
pub mod FindLaws
mod FoundLemmas
mod PlaceOrder
mod SpotLemmas
mod HolderLemmas
mod CaseLemmas
mod PrintingLemmas
mod NumberLemmas
mod CaseLists
mod BacktraceParts
