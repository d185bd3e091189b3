pub mod Said
pub mod Decimals
pub mod Lines
pub mod Whole
pub mod Wordings
pub mod Examples
