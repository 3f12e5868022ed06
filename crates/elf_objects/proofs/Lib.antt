pub mod LeastBelow
pub mod Found
pub mod Linked
pub mod Homes
pub mod FirstFault
pub mod Read
pub mod Crowding
pub mod UpToZero
