pub mod PagedLogs
pub mod PagedLogsSound
