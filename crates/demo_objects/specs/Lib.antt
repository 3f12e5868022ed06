pub mod Spec
pub mod Layout
pub mod Made
pub mod Bodies
pub mod CanMake
pub mod Object
pub mod Checked
pub mod Demo
