pub mod Pieces
pub mod OfParts
pub mod Enough
pub mod Counts
pub mod Added
pub mod One
pub mod Examples
