pub mod LogStores
pub mod Memory
pub mod PageStores
