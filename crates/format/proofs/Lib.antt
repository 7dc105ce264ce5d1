pub mod ByKind
pub mod Encoding
pub mod Laid
pub mod Numbers
pub mod Paged
pub mod Reading
pub mod Rows
pub mod Unused
