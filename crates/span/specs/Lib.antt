pub mod Halves
pub mod Spans
