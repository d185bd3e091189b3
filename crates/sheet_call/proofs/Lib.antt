pub mod InOrder
pub mod Theorems
