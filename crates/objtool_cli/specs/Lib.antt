pub mod Checked
pub mod Telling
pub mod Command
pub mod Promises
pub mod Refused
pub mod Summary
pub mod Unwinding
pub mod Words
pub mod Writing
pub use Rattle.site_lists.specs.Sites as CodeSites
pub use Rattle.site_lists.specs.Sections as SiteSections
pub use Rattle.site_lists.specs.Listed as ListedSites
pub use Rattle.code_commands.specs.Sites as SiteObjects
pub use Rattle.code_commands.specs.SitesWords as SiteWords
pub use Rattle.objtool_cli.specs.Written as FrameObjects
pub use Rattle.command_base.specs.Status
pub mod FramesOrder
pub mod Undone
pub mod Written
pub mod Cfi
pub mod FramesChecked
pub mod FramesRefused
