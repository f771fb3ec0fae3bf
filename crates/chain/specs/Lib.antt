pub mod Drafting
pub mod Limits
pub mod Parts
pub mod Refusals
pub mod Steps
pub mod Windows
