pub mod Examples
pub mod Outcomes
