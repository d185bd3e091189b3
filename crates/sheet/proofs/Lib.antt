mod Onward
mod Bounds
mod Steps
pub mod Same
pub mod Numbers
mod Tables
pub mod Gather
pub mod Accepted
pub mod Written
pub mod Settled
pub mod Fewest
pub mod Longest
pub mod Bytes
pub mod Theorems
pub mod Examples
mod Marks
