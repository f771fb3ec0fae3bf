pub mod Demand
pub mod Lemmas
pub mod Margin
pub mod Steps
pub mod Tests
