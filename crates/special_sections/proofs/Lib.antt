mod FirstFault
mod Gathered
pub mod Totals
mod Intervals
pub mod Relas
mod Counted
pub mod Unfaulted
mod Few
mod Order
mod Finding
mod Nesting
pub mod Written
