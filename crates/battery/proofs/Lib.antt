mod BatteryCuts
mod BatteryForces
mod BatteryReads
mod BatteryRows
mod BatteryWrites
