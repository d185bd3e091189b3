pub mod Piece
pub mod File
pub mod Counted
pub mod Totals
pub mod Parts
