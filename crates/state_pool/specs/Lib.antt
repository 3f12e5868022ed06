pub mod Hashed
pub mod Keys
pub mod States
pub mod Counted
