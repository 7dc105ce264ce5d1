pub mod ScriptedPlans
