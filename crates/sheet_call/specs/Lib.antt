pub mod Call
pub mod Parts
