pub mod Routes
pub mod Verdict
pub mod Parts
pub mod OfSheet
pub mod Route
