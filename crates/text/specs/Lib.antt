pub mod Text
pub mod Verdict
pub mod Density
pub mod Parts
