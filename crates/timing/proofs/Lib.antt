pub mod LeastEnds
pub mod SameItem
