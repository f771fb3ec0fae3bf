pub mod Placement
pub mod Printout
pub mod Steps
