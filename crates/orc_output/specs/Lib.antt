pub mod OrcOutput
pub mod Needed
pub mod Tables
