pub mod Laid
pub mod Fits
pub mod Entered
pub mod Answers
pub mod One
pub mod ReadBack
pub mod Examples
