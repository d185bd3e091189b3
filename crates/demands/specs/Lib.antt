pub mod Series
pub mod PhaserDeadlocks
pub mod Moves
pub mod Demands
pub mod SheetCalls
pub mod Densities
pub mod OneAnswer
