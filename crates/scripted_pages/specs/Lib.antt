pub mod ScriptedPages
