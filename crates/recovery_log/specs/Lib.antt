pub mod Log
pub mod Summary
