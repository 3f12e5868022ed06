pub mod Numbers
pub mod Found
pub mod Starts
pub mod Points
pub mod Items
mod ItemSpans
pub mod ListedFields
mod Decoded
mod Fourfold
mod OwnersOf
mod PatchMarks
pub mod Made
pub mod SitePlaces
pub mod Entries
pub mod AllSites
mod Order
mod Runs
mod Marked
mod MarkedHints
mod SiteMarks
pub mod HintOrder
pub mod Below
pub mod Run
pub mod Finding
pub mod ListedHints
pub mod Nearest
pub mod Listing
mod EitherPlaces
mod Onward
pub mod Meant
pub mod TextsLemmas
