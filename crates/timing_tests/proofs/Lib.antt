pub mod Copies
pub mod Demands
pub mod Overload
