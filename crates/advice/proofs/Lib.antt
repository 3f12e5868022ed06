mod Closest
mod OptionPart
mod Topics
