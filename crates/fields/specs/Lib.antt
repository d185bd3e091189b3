pub mod Figures
pub mod Got
pub mod Number
