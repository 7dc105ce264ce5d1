pub mod Compensations
pub mod Promises
pub mod AnyDevices
