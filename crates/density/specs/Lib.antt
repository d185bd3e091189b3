pub mod HowMany
pub mod Density
pub mod Parts
