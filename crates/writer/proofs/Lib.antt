pub mod Laying
pub mod Putting
pub mod Counting
pub mod Sheet
pub mod Answered
pub mod Theorems
pub mod Handing
