pub mod State
pub mod Waiting
pub mod Tests
pub mod Parts
