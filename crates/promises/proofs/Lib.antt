mod Aborting
mod Analysis
pub mod AnyDevices
mod AnyDevicesAbort
mod AnyDevicesAnalysis
pub mod AnyDevicesBack
mod AnyDevicesCheckpoint
mod AnyDevicesPlans
mod AnyDevicesRedo
pub mod AnyDevicesScans
mod AnyDevicesService
pub mod AnyDevicesSlots
mod AnyDevicesStages
mod AnyDevicesTables
mod AnyDevicesUndo
mod Appends
pub mod Asking
mod Beginning
mod Checkpointing
mod Committing
mod Cuts
mod Cutting
mod DataLaw
pub mod Decoded
mod Fetching
mod Finishing
mod Fitting
mod Forever
mod Images
pub mod Invariants
mod JobLaws
pub mod JobTables
mod Keeping
mod Legal
mod Looking
pub mod Membership
pub mod Once
mod Opening
mod Operations
pub mod OwedLaws
mod PageCounts
mod Piles
mod Powering
mod Progress
pub mod Promised
mod Recording
mod Redo
mod Restarting
mod Restarts
pub mod Runs
mod Safety
mod Serves
mod Shipping
mod States
pub mod TableLaws
mod TakingBack
mod Truths
mod Undoing
mod WritingOut
