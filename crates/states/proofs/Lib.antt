pub mod Truth
pub mod Refusals
pub mod Events
