pub mod Many
pub mod Standing
pub mod Tallied
pub mod Graphs
pub mod Counted
pub mod Twins
pub mod Twice
pub mod Decided
