pub mod ScriptedLog
pub mod ScriptedTools
