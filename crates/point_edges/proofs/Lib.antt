pub mod Points
mod Numbered
mod Plain
mod Pushing
mod Going
mod EdgesWithin
mod Inside
mod Within
mod Entries
mod MarksWithin
mod Parts
mod Through
mod Callees
pub mod Standing
pub mod Bytes
pub mod KnownTexts
