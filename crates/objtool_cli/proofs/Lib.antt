pub mod AcceptsLemmas
pub mod BacktraceLemmas
pub mod CfiEnds
pub mod CheckEnds
pub mod CheckLemmas
pub mod CheckableLemmas
pub mod ContentEnds
pub mod ContentLemmas
pub mod DemoBytes
pub mod DemoEnds
pub mod DemoWords
pub mod FaultEnds
pub mod LaterLemmas
pub mod ParseLemmas
pub mod PlacementLemmas
pub mod ReadBackEnds
pub mod RefusalEnds
pub mod SameCommand
pub mod StatusLemmas
pub mod SummaryEnds
pub mod SummaryLemmas
pub mod TextEnds
pub mod UnwindingLemmas
pub mod UsageEnds
pub mod UsageLemmas
mod FramesGets
mod FramesEnds
pub mod CfiLaws
mod OneRule
mod Begun
mod LastRule
mod Undoing
mod Undoes
