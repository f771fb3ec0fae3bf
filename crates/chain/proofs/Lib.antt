pub mod Ends
pub mod Filling
pub mod Firsts
pub mod Kept
pub mod PartSteps
