pub mod Outcomes
pub mod Memories
pub mod Readers
pub mod Parts
pub mod TakingBack
pub mod Passes
