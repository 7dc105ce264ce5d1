pub mod Batteries
pub mod BatterySound
pub mod BatteryStores
