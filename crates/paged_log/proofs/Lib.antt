mod PagedLogCalls
mod PagedLogEnds
mod PagedLogModel
mod PagedLogParts
mod PagedLogSteps
mod PagedLogWrites
