pub mod Words
pub mod Pages
