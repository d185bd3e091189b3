pub mod Placing
pub mod Filling
pub mod One
