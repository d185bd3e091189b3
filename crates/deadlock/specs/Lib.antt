pub mod Walk
pub mod Waiting
pub mod Ring
pub mod Parts
