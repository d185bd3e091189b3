pub mod Set
pub mod Rising
pub mod Tested
