pub mod Answers
pub mod Parts
pub mod Head
pub mod Entry
pub mod Reader
pub mod Written
