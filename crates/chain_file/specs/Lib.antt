pub mod Fields
pub mod Format
pub mod Reading
pub mod Refusals
pub mod Steps
