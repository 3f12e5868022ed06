mod Found
mod KindLaws
mod Marked
