pub mod Places
pub mod Entry
