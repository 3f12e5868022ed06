pub mod Advice
pub mod Files
pub mod KnownWords
pub mod MissingNames
pub mod Nearest
