mod TextEnds
mod Joined
