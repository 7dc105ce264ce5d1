pub mod JobSteps
pub mod Counting
