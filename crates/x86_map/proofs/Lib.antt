pub mod Looks
pub mod Tables
pub mod Accepting
pub mod EachOpcode
pub mod Modrm
pub mod Apart
