pub mod Bytes
pub mod Changes
pub mod Pages
pub mod Slots
