-- The log store that scripted memory is. Assumes nothing.
use Rattle.std.specs.Prelude.{vec_capacity, vec_items}
use Rattle.device.specs.LogStores.{LogModel}
use Rattle.scripted_log.specs.declared.ScriptedLog.{ScriptedLog}

abbrev pub model : ScriptedLog → LogModel
model s = record { capacity = vec_capacity s.slots; slots = vec_items s.slots; forced = s.forced; powered = s.powered }
